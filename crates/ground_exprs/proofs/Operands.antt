-- Operations, choices and literals.
use Rattle.std.proofs.Common.{◌≡◌, ℕ, zero, suc, ◌+◌, ◌<◌, ◌&&◌, true, List, [], ◌∷◌, ◌++◌, map, length, get_or, slice_get, Option, Some, None, option_map, option_and_then, is_some, refl, sym, ap, ap₂, ◌∙◌, subst, arith, true≢false, ⊎_elim}
use Rattle.std.specs.Prelude.{IsSome}
use Rattle.std.specs.List.{list_all, flat_map}
use Rattle.std.proofs.lemmas.Grind.{common_steps}
use Rattle.std.proofs.lemmas.List.Concat.{flat_map-cons}
use Rattle.std.proofs.lemmas.List.Folds.{flat_map-map}
use Rattle.prim_ops.specs.declared.operation.PrimOp.{PrimOp}
use Rattle.fir_tree.specs.declared.expr.Expr.{Expr}
use Rattle.fir_tree.specs.declared.expr.Form.TheVariants as form
use Rattle.fir_tree.specs.declared.expr.Form.TheOpen.{Form-F}
use Rattle.prim_ops.specs.Values.{lone, operation}
use Rattle.ground_net.specs.declared.ground.Ground.TheVariants.{Op}
use Rattle.ground_net.specs.Grounds.{Instant, value, mentions, chosen}
use Rattle.ground_net.specs.Grounds as nets
use Rattle.ground_net.proofs.Layers.{all_mentions, maps, value-Op, mentions-Op}
use Rattle.ground_net.specs.Shapes.{Shape, Table, HasShapes, shape, all_of, shape_of_row}
use Rattle.ground_net.proofs.Shaping.{shape-Op, both_true}
use Rattle.fir_meaning.specs.WellTyped as kinds
use Rattle.fir_meaning.specs.WellTyped.{Known, typed, is_one_unsigned, lone_shape, wider, wider_each, literal_shape}
use Rattle.fir_meaning.specs.Values as tree
use Rattle.fir_meaning.specs.Values.{Scene, one_of_two, literal_width}
use Rattle.fir_meaning.specs.Mentions as reads
use Rattle.fir_meaning.specs.Mentions.{Scope, joined}
use Rattle.ground_exprs.specs.Numbers.{Numbering, SameLeaves, scene_seen}
use Rattle.ground_exprs.proofs.Members.{none_some, some_same, place_within, item_at}
use Rattle.ground_exprs.proofs.Onwards.{same_none, same_append}
use Rattle.ground_exprs.specs.declared.source.Source.{Source}
use Rattle.ground_exprs.specs.Sources.{Entries, known_of, Knows, told, source_values, IsLowered, AreOperands, is_lone}
use Rattle.ground_exprs.proofs.Lists.{maps_same}
use Rattle.ground_exprs.proofs.Wholes.{get_pushed}
use Rattle.ground_exprs.proofs.Lowered.{lowers_as}
use Rattle.ground_exprs.proofs.Forms.{typed-Prim, value-Prim, mentions-Prim}

-- Operands

pub operands_none : (entries : Entries) (es : List Expr) → AreOperands entries es 0 []
operands_none entries es = record { counted = refl; each = λ k e s a b. absurd (none_some b) }

pub operands_more : (entries : Entries) (es : List Expr) (k : ℕ) (e : Expr) (sources after own : List Source) (s : Source) → AreOperands entries es k sources → slice_get es k ≡ Some e
    → own ≡ s ∷ [] → IsLowered entries e own → after ≡ sources ++ s ∷ [] → AreOperands entries es (k + 1) after
operands_more entries es k e sources after own s so_far at one here is = subst (AreOperands entries es (k + 1)) (sym is) (record {
  counted = longer sources s k so_far.counted;
  each = λ j x t a b. ⊎_elim (λ old. so_far.each j x t a old) (λ new. last j x t a new.0 new.1) (get_pushed sources s j t b);
})
  where
    longer : (xs : List Source) (x : Source) (k : ℕ) → length xs ≡ k → length (xs ++ x ∷ []) ≡ k + 1
    longer xs x k e = grind (arith, common_steps, e)

    last : (j : ℕ) (x : Expr) (t : Source) → slice_get es j ≡ Some x → j ≡ length sources → s ≡ t → IsLowered entries x (t ∷ [])
    last j x t a m same =
        let expr : e ≡ x = some_same (sym at ∙ (ap (slice_get es) (sym (m ∙ so_far.counted)) ∙ a)) in
        subst (λ y. IsLowered entries x (y ∷ [])) same (subst (λ y. IsLowered entries y (s ∷ [])) expr (subst (IsLowered entries e) one here))

module _ (entries : Entries) (es : List Expr) (sources : List Source) (all : AreOperands entries es (length es) sources) where
  operand_kinds : map (λ e. lone_shape (typed e (known_of entries))) es ≡ map (λ s. Some (told s)) sources
  operand_kinds = maps_same (λ e. lone_shape (typed e (known_of entries))) (λ s. Some (told s)) es sources all.counted (λ j e s a b. ap lone_shape (all.each j e s a b).typed)

  operand_values : (n : Numbering) (types : Scope) (instant : Instant) → Knows n types entries → HasShapes n.table instant
      → map (λ e. lone (tree.value e (scene_seen types n instant))) es ≡ source_values sources instant
  operand_values n types instant k h = maps_same (λ e. lone (tree.value e (scene_seen types n instant))) (λ (s : Source). value s.expr instant) es sources all.counted
      (λ j e s a b. sym (ap lone (((all.each j e s a b).are n types k).values instant h)))

  operand_shapes : (n : Numbering) (types : Scope) → Knows n types entries → (j : ℕ) (s : Source) → slice_get sources j ≡ Some s → shape s.expr n.table ≡ Some (told s)
  operand_shapes n types k j s b =
      let there = item_at es j (subst (λ m. j < m) all.counted (place_within sources j s b)) in
      head ((all.each j there.0 s there.1 b).are n types k).shapes
    where
      head : {A : Type 0} {x y : A} {xs ys : List A} → (x ∷ xs) ≡ (y ∷ ys) → x ≡ y
      head e = cc

  operand_reads : (n : Numbering) (types : Scope) → Knows n types entries → (j : ℕ) (e : Expr) (s : Source) → slice_get es j ≡ Some e → slice_get sources j ≡ Some s
      → SameLeaves n (joined (reads.mentions e types)) (mentions s.expr)
  operand_reads n types k j e s a b = Rattle.ground_exprs.proofs.Lowered.joined_one n (reads.mentions e types) s ((all.each j e s a b).are n types k).reads

all_told : (ss : List Source) → all_of (map (λ (s : Source). Some (told s)) ss) ≡ Some (map told ss)
all_told [] = refl
all_told (s ∷ ss) = ap (λ o. option_and_then (λ more. Some (told s ∷ more)) o) (all_told ss)

reads_joined : (n : Numbering) (types : Scope) (es : List Expr) (ss : List Source) → length ss ≡ length es
    → ((j : ℕ) (e : Expr) (s : Source) → slice_get es j ≡ Some e → slice_get ss j ≡ Some s → SameLeaves n (joined (reads.mentions e types)) (mentions s.expr))
    → SameLeaves n (flat_map (λ e. joined (reads.mentions e types)) es) (flat_map (λ (s : Source). mentions s.expr) ss)
reads_joined n types [] [] l h = same_none n
reads_joined n types [] (s ∷ ss) l h = absurd (omega (arith, l))
reads_joined n types (e ∷ es) [] l h = absurd (omega (arith, l))
reads_joined n types (e ∷ es) (s ∷ ss) l h =
    subst (λ xs. SameLeaves n xs (flat_map (λ (s : Source). mentions s.expr) (s ∷ ss))) (sym (flat_map-cons (λ e. joined (reads.mentions e types)) e es))
    (subst (SameLeaves n (joined (reads.mentions e types) ++ flat_map (λ e. joined (reads.mentions e types)) es)) (sym (flat_map-cons (λ (s : Source). mentions s.expr) s ss))
    (same_append n (joined (reads.mentions e types)) (flat_map (λ e. joined (reads.mentions e types)) es) (mentions s.expr) (flat_map (λ (s : Source). mentions s.expr) ss) (h 0 e s refl refl)
    (reads_joined n types es ss (omega (arith, l)) (λ j. h (suc j)))))

mentions_of : (ss : List Source) → all_mentions (map (λ (s : Source). s.expr) ss) ≡ flat_map (λ (s : Source). mentions s.expr) ss
mentions_of ss = ap nets.joined (maps mentions (λ (s : Source). s.expr) ss) ∙ flat_map-map (λ l. l) (λ (s : Source). mentions s.expr) ss

shapes_told : (table : Table) (ss : List Source) → ((j : ℕ) (s : Source) → slice_get ss j ≡ Some s → shape s.expr table ≡ Some (told s))
    → map (λ (s : Source). shape s.expr table) ss ≡ map (λ (s : Source). Some (told s)) ss
shapes_told table [] h = refl
shapes_told table (s ∷ ss) h = ap₂ (λ a more. a ∷ more) (h 0 s refl) (shapes_told table ss (λ j. h (suc j)))

-- what an operation of operands asks for
pub row_asked : (entries : Entries) (prim : PrimOp) (es : List Expr) (params : List ℕ) (sources : List Source) → AreOperands entries es (length es) sources
    → option_and_then (shape_of_row prim params) (all_of (map (λ o. lone_shape (o (known_of entries))) (map typed es))) ≡ shape_of_row prim params (map told sources)
row_asked entries prim es params sources all =
    ap (λ ss. option_and_then (shape_of_row prim params) (all_of ss)) (maps (λ o. lone_shape (o (known_of entries))) typed es ∙ operand_kinds entries es sources all)
    ∙ ap (option_and_then (shape_of_row prim params)) (all_told sources)

pub operation_lowers : (entries : Entries) (e : Expr) (prim : PrimOp) (es : List Expr) (params : List ℕ) (sources : List Source) (s : Source) → e.form ≡ form.Prim prim es params
    → AreOperands entries es (length es) sources → s.expr ≡ Op prim (map (λ (o : Source). o.expr) sources) params → shape_of_row prim params (map told sources) ≡ Some (told s) → IsLowered entries e (s ∷ [])
operation_lowers entries e prim es params sources s is all expr row = lowers_as entries
    (kinds.of_form (Form-F.Prim prim (map typed es) params) (known_of entries)) (typed e (known_of entries)) (tree.of_form (Form-F.Prim prim (map tree.value es) params)) (tree.value e)
    (reads.of_form (Form-F.Prim prim (map reads.mentions es) params)) (reads.mentions e) (s ∷ []) (ap (λ f. f (known_of entries)) (typed-Prim e prim es params is)) (value-Prim e prim es params is) (mentions-Prim e prim es params is)
    (record {
      typed = ap (option_map (λ s. s ∷ [])) (row_asked entries prim es params sources all ∙ row);
      are = λ n types k. record {
        values = λ instant h.
            ap (λ v. v ∷ []) (ap (λ g. value g instant) expr ∙ (value-Op prim (map (λ (o : Source). o.expr) sources) params instant
            ∙ ap (λ vs. operation prim vs params) (maps (λ g. value g instant) (λ (o : Source). o.expr) sources ∙ (sym (operand_values entries es sources all n types instant k h)
            ∙ sym (maps (λ o. lone (o (scene_seen types n instant))) tree.value es)))));
        shapes = ap (λ o. o ∷ []) (ap (λ g. shape g n.table) expr ∙ (shape-Op prim (map (λ (o : Source). o.expr) sources) params n.table
            ∙ (ap (λ os. option_and_then (shape_of_row prim params) (all_of os)) (maps (λ g. shape g n.table) (λ (o : Source). o.expr) sources ∙ shapes_told n.table sources (operand_shapes entries es sources all n types k))
            ∙ (ap (option_and_then (shape_of_row prim params)) (all_told sources) ∙ row))));
        reads = (
          subst (λ ls. SameLeaves n ls (mentions s.expr)) (sym (flat_map-map (λ o. joined (o types)) reads.mentions es))
              (subst (SameLeaves n (flat_map (λ e. joined (reads.mentions e types)) es)) (sym (ap mentions expr ∙ (mentions-Op prim (map (λ (o : Source). o.expr) sources) params ∙ mentions_of sources)))
              (reads_joined n types es sources all.counted (operand_reads entries es sources all n types k))),
          tt,
        );
      };
    })

-- each operand of a well typed operation has one value
lone_each : (known : Known) (es : List Expr) → IsSome (all_of (map (λ o. lone_shape (o known)) (map typed es))) → list_all (is_lone known) es ≡ true
lone_each known [] h = refl
lone_each known (e ∷ es) h = by (lone_shape (typed e known)) refl (all_of (map (λ o. lone_shape (o known)) (map typed es))) refl (lone_each known es)
  where
    by : (o : Option Shape) → lone_shape (typed e known) ≡ o → (q : Option (List Shape)) → all_of (map (λ o. lone_shape (o known)) (map typed es)) ≡ q
        → (IsSome (all_of (map (λ o. lone_shape (o known)) (map typed es))) → list_all (is_lone known) es ≡ true) → list_all (is_lone known) (e ∷ es) ≡ true
    by (Some s) a (Some ss) b later = ap₂ (λ x y. x && y) (ap is_some a) (later (ap is_some b))
    by (Some s) a None b later = absurd (true≢false (sym (ap₂ (λ p q. is_some (option_and_then (λ s. option_and_then (λ more. Some (s ∷ more)) q) p)) (sym a) (sym b) ∙ h)))
    by None a q b later = absurd (true≢false (sym (ap (λ p. is_some (option_and_then (λ s. option_and_then (λ more. Some (s ∷ more)) (all_of (map (λ o. lone_shape (o known)) (map typed es)))) p)) (sym a) ∙ h)))

chain_some : {A B : Type 0} (f : A → Option B) (o : Option A) → IsSome (option_and_then f o) → IsSome o
chain_some f (Some x) h = refl
chain_some f None h = absurd (true≢false (sym h))

pub operands_lone : (entries : Entries) (e : Expr) (prim : PrimOp) (es : List Expr) (params : List ℕ) → e.form ≡ form.Prim prim es params → IsSome (typed e (known_of entries)) → list_all (is_lone (known_of entries)) es ≡ true
operands_lone entries e prim es params is h =
    lone_each (known_of entries) es (chain_some (shape_of_row prim params) (all_of (map (λ o. lone_shape (o (known_of entries))) (map typed es)))
    (mapped_some (λ s. s ∷ []) (option_and_then (shape_of_row prim params) (all_of (map (λ o. lone_shape (o (known_of entries))) (map typed es)))) (ap (λ f. is_some (f (known_of entries))) (sym (typed-Prim e prim es params is)) ∙ h)))
  where
    mapped_some : {A B : Type 0} (f : A → B) (o : Option A) → IsSome (option_map f o) → IsSome o
    mapped_some f (Some x) h = refl
    mapped_some f None h = h

pub row_fits : (entries : Entries) (e : Expr) (prim : PrimOp) (es : List Expr) (params : List ℕ) (sources : List Source) → e.form ≡ form.Prim prim es params → IsSome (typed e (known_of entries))
    → AreOperands entries es (length es) sources → IsSome (shape_of_row prim params (map told sources))
row_fits entries e prim es params sources is h all =
    ap is_some (sym (row_asked entries prim es params sources all))
    ∙ mapped_some (λ s. s ∷ []) (option_and_then (shape_of_row prim params) (all_of (map (λ o. lone_shape (o (known_of entries))) (map typed es)))) (ap (λ f. is_some (f (known_of entries))) (sym (typed-Prim e prim es params is)) ∙ h)
  where
    mapped_some : {A B : Type 0} (f : A → B) (o : Option A) → IsSome (option_map f o) → IsSome o
    mapped_some f (Some x) h = refl
    mapped_some f None h = h

-- an operand that has one value
pub lone_asked : (known : Known) (es : List Expr) (k : ℕ) (e : Expr) → k < length es → e ≡ get_or es k e → list_all (is_lone known) es ≡ true → IsSome (lone_shape (typed e known))
lone_asked known [] k e h is all = absurd (omega arith)
lone_asked known (x ∷ xs) zero e h is all = ap (λ y. is_lone known y) is ∙ (both_true (is_lone known x) (list_all (is_lone known) xs) all).0
lone_asked known (x ∷ xs) (suc k) e h is all = lone_asked known xs k e (omega arith) is (both_true (is_lone known x) (list_all (is_lone known) xs) all).1

pub lone_some : (o : Option (List Shape)) → IsSome (lone_shape o) → IsSome o
lone_some (Some ss) h = refl
lone_some None h = absurd (true≢false (sym h))

pub lone_length : (o : Option (List Shape)) (sources : List Source) → IsSome (lone_shape o) → o ≡ Some (map told sources) → length sources ≡ 1
lone_length o [] h e = absurd (true≢false (sym (ap (λ x. is_some (lone_shape x)) (sym e) ∙ h)))
lone_length o (s ∷ []) h e = refl
lone_length o (s ∷ t ∷ ss) h e = absurd (true≢false (sym (ap (λ x. is_some (lone_shape x)) (sym e) ∙ h)))
