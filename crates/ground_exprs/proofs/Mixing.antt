-- Choices as a whole.
use Rattle.std.proofs.Common.{◌≡◌, ℕ, max, ◌==◌, ◌&&◌, Bool, true, false, List, [], ◌∷◌, ◌++◌, map, zip, Option, Some, None, option_map, option_and_then, is_some, refl, sym, ap, ap₂, ◌∙◌, subst, arith, if◌then◌else◌, true≢false, append-nil}
use Rattle.std.specs.Prelude.{IsSome}
use Rattle.std.proofs.lemmas.Grind.{common_steps}
use Rattle.std.proofs.lemmas.Bool.Decides.{nat_tests}
use Rattle.bit_words.specs.declared.value.Kind.{Kind}
use Rattle.bit_words.specs.declared.value.Kind.TheVariants.{Unsigned, Signed}
use Rattle.bit_words.specs.Values.{integer_of}
use Rattle.fir_tree.specs.declared.expr.Expr.{Expr}
use Rattle.fir_tree.specs.declared.expr.Form.TheOpen.{Form-F}
use Rattle.prim_ops.specs.Values.{fitted, lone, is_one}
use Rattle.ground_net.specs.declared.ground.Ground.{Ground}
use Rattle.ground_net.specs.Grounds.{Instant, value, mentions, chosen}
use Rattle.ground_net.proofs.Layers.{value-Mux, mentions-Mux}
use Rattle.ground_net.specs.Shapes.{Shape, shaped, Table, HasShapes, shape, same_kind, is_unsigned, all_of, shape_of_choice}
use Rattle.ground_net.proofs.Shaping.{shape-Mux, shapes_hold, and_then, if_some}
use Rattle.fir_meaning.specs.Components.{Leaf}
use Rattle.fir_meaning.specs.WellTyped as kinds
use Rattle.fir_meaning.specs.WellTyped.{Known, typed, is_one_unsigned, wider, wider_each}
use Rattle.fir_meaning.specs.Values as tree
use Rattle.fir_meaning.specs.Values.{Scene, one_of_two}
use Rattle.fir_meaning.specs.Mentions as reads
use Rattle.fir_meaning.specs.Mentions.{Scope, joined}
use Rattle.ground_exprs.specs.Numbers.{Numbering, SameLeaves, scene_seen}
use Rattle.ground_exprs.proofs.Members.{none_some, some_same}
use Rattle.ground_exprs.proofs.Onwards.{same_append}
use Rattle.ground_exprs.specs.declared.source.Source.{Source}
use Rattle.ground_exprs.specs.Sources.{Entries, known_of, told, source_values, ReadEach, Lowers, IsLowered}
use Rattle.ground_exprs.specs.Choices.{IsChosen, AreChosen}
use Rattle.ground_exprs.proofs.Lowered.{joined_one, head_same}

wide : (s t u : Shape) → wider s t ≡ Some u → (same_kind s.kind t.kind ≡ true) × (u ≡ shaped s.kind (max s.width t.width))
wide s t u e =
    let test = if_some (same_kind s.kind t.kind) (Some (shaped s.kind (max s.width t.width))) u e in
    (test.0, sym (some_same test.1))

each_wide : (s t : Shape) (ss ts us : List Shape) → wider_each (s ∷ ss) (t ∷ ts) ≡ Some us → (u : Shape) × (more : List Shape) × (us ≡ u ∷ more) × (wider s t ≡ Some u) × (wider_each ss ts ≡ Some more)
each_wide s t ss ts us e =
    let first = and_then (λ u. option_map (λ us. u ∷ us) (wider_each ss ts)) (wider s t) us e in
    by first.0 first.1 (wider_each ss ts) refl first.2
  where
    by : (u : Shape) → wider s t ≡ Some u → (o : Option (List Shape)) → wider_each ss ts ≡ o → option_map (λ us. u ∷ us) o ≡ Some us
        → (u : Shape) × (more : List Shape) × (us ≡ u ∷ more) × (wider s t ≡ Some u) × (wider_each ss ts ≡ Some more)
    by u w (Some more) q h = (u, more, sym (some_same h), w, q)
    by u w None q h = absurd (none_some h)

-- kinds and widths
pub chosen_told : (condition : Ground) (firsts seconds sources : List Source) (us : List Shape) → AreChosen condition firsts seconds sources → wider_each (map told firsts) (map told seconds) ≡ Some us → us ≡ map told sources
chosen_told condition [] [] [] us c e = sym (some_same e)
chosen_told condition [] (t ∷ ts) [] us c e = absurd (none_some e)
chosen_told condition [] ts (s ∷ ss) us c e = absurd c
chosen_told condition (f ∷ fs) [] ss us c e = absurd (none_some e)
chosen_told condition (f ∷ fs) (t ∷ ts) [] us c e = absurd c
chosen_told condition (f ∷ fs) (t ∷ ts) (s ∷ ss) us c e =
    let split = each_wide (told f) (told t) (map told fs) (map told ts) us e in
    let u : split.0 ≡ shaped f.kind (max f.width t.width) = (wide (told f) (told t) split.0 split.3).1 in
    split.2 ∙ ap₂ (λ a more. a ∷ more) (u ∙ sym (ap₂ (λ k w. shaped k w) c.0.kind c.0.width)) (chosen_told condition fs ts ss split.1 c.1 split.4)

-- values

chosen_value : (condition : Ground) (table : Table) (instant : Instant) (f t s : Source) → HasShapes table instant → shape f.expr table ≡ Some (told f) → shape t.expr table ≡ Some (told t) → IsChosen condition f t s
    → value s.expr instant ≡ one_of_two (is_one (value condition instant)) (value f.expr instant) (value t.expr instant)
chosen_value condition table instant f t s h a b c =
    ap (λ g. value g instant) c.expr ∙ (value-Mux (condition ∷ c.one.expr ∷ c.other.expr ∷ []) instant ∙ (by (is_one (value condition instant))
    ∙ ap₂ (λ k w. fitted k w (integer_of (if is_one (value condition instant) then value f.expr instant else value t.expr instant)))
    (c.kind ∙ sym first_kind) (c.width ∙ ap₂ (λ p q. max p q) (sym first_width) (sym second_width))))
  where
    first_kind : (value f.expr instant).kind ≡ f.kind
    first_kind = ap (λ (x : Shape). x.kind) (shapes_hold table instant h f.expr (told f) a)

    first_width : (value f.expr instant).width ≡ f.width
    first_width = ap (λ (x : Shape). x.width) (shapes_hold table instant h f.expr (told f) a)

    second_width : (value t.expr instant).width ≡ t.width
    second_width = ap (λ (x : Shape). x.width) (shapes_hold table instant h t.expr (told t) b)

    by : (test : Bool) → (if test then value c.one.expr instant else value c.other.expr instant) ≡ fitted s.kind s.width (integer_of (if test then value f.expr instant else value t.expr instant))
    by true = c.one_fits.value table instant a h ∙ ap₂ (λ k w. fitted k w (integer_of (value f.expr instant))) c.one_kind c.one_width
    by false = c.other_fits.value table instant b h ∙ ap₂ (λ k w. fitted k w (integer_of (value t.expr instant))) c.other_kind c.other_width

tail_same : {A : Type 0} {x y : A} {xs ys : List A} → (x ∷ xs) ≡ (y ∷ ys) → xs ≡ ys
tail_same e = cc

abbrev Shaped_all : Table → List Source → Type 0
Shaped_all table ss = map (λ (s : Source). shape s.expr table) ss ≡ map (λ (s : Source). Some (told s)) ss

pub chosen_values : (condition : Ground) (table : Table) (instant : Instant) (firsts seconds sources : List Source) → HasShapes table instant → Shaped_all table firsts → Shaped_all table seconds → AreChosen condition firsts seconds sources
    → source_values sources instant ≡ map (λ both. one_of_two (is_one (value condition instant)) both.0 both.1) (zip (source_values firsts instant) (source_values seconds instant))
chosen_values condition table instant [] ts [] h a b c = refl
chosen_values condition table instant [] ts (s ∷ ss) h a b c = absurd c
chosen_values condition table instant (f ∷ fs) [] [] h a b c = refl
chosen_values condition table instant (f ∷ fs) [] (s ∷ ss) h a b c = absurd c
chosen_values condition table instant (f ∷ fs) (t ∷ ts) [] h a b c = absurd c
chosen_values condition table instant (f ∷ fs) (t ∷ ts) (s ∷ ss) h a b c =
    ap₂ (λ v vs. v ∷ vs) (chosen_value condition table instant f t s h (head_same a) (head_same b) c.0) (chosen_values condition table instant fs ts ss h (tail_same a) (tail_same b) c.1)

-- shapes

chosen_shape : (condition : Ground) (i : Shape) (table : Table) (f t s : Source) → shape condition table ≡ Some i → is_unsigned i ≡ true → shape f.expr table ≡ Some (told f) → shape t.expr table ≡ Some (told t)
    → IsChosen condition f t s → shape s.expr table ≡ Some (told s)
chosen_shape condition i table f t s ci u a b c =
    ap (λ g. shape g table) c.expr ∙ (shape-Mux (condition ∷ c.one.expr ∷ c.other.expr ∷ []) table
    ∙ (ap (λ o. option_and_then shape_of_choice (all_of (o ∷ shape c.one.expr table ∷ shape c.other.expr table ∷ []))) ci
    ∙ (ap₂ (λ o p. option_and_then shape_of_choice (all_of (Some i ∷ o ∷ p ∷ []))) (c.one_fits.shape table a ∙ ap₂ (λ k w. Some (shaped k w)) c.one_kind c.one_width)
    (c.other_fits.shape table b ∙ ap₂ (λ k w. Some (shaped k w)) c.other_kind c.other_width)
    ∙ ap₂ (λ x y. if x && y then Some (told s) else None) u (same_itself s.kind s.width))))
  where
    width_same : (n : ℕ) → (n == n) ≡ true
    width_same n = grind (arith, common_steps, nat_tests)

    same_itself : (k : Kind) (n : ℕ) → (same_kind k k && (n == n)) ≡ true
    same_itself Unsigned n = width_same n
    same_itself Signed n = width_same n

pub chosen_shapes_hold : (condition : Ground) (i : Shape) (table : Table) (firsts seconds sources : List Source) → shape condition table ≡ Some i → is_unsigned i ≡ true → Shaped_all table firsts → Shaped_all table seconds
    → AreChosen condition firsts seconds sources → Shaped_all table sources
chosen_shapes_hold condition i table [] ts [] ci u a b c = refl
chosen_shapes_hold condition i table [] ts (s ∷ ss) ci u a b c = absurd c
chosen_shapes_hold condition i table (f ∷ fs) [] [] ci u a b c = refl
chosen_shapes_hold condition i table (f ∷ fs) [] (s ∷ ss) ci u a b c = absurd c
chosen_shapes_hold condition i table (f ∷ fs) (t ∷ ts) [] ci u a b c = absurd c
chosen_shapes_hold condition i table (f ∷ fs) (t ∷ ts) (s ∷ ss) ci u a b c =
    ap₂ (λ o os. o ∷ os) (chosen_shape condition i table f t s ci u (head_same a) (head_same b) c.0) (chosen_shapes_hold condition i table fs ts ss ci u (tail_same a) (tail_same b) c.1)

-- mentions

chosen_mentions : (condition : Ground) (f t s : Source) → IsChosen condition f t s → mentions s.expr ≡ mentions condition ++ (mentions f.expr ++ mentions t.expr)
chosen_mentions condition f t s c =
    ap mentions c.expr ∙ (mentions-Mux (condition ∷ c.one.expr ∷ c.other.expr ∷ []) ∙ (three (mentions condition) (mentions c.one.expr) (mentions c.other.expr)
    ∙ ap₂ (λ a b. mentions condition ++ (a ++ b)) c.one_fits.mentions c.other_fits.mentions))
  where
    three : (a b c : List ℕ) → Rattle.ground_net.specs.Grounds.joined (a ∷ b ∷ c ∷ []) ≡ a ++ (b ++ c)
    three a b c = ap (λ l. a ++ (b ++ l)) (append-nil c)

pub chosen_reads : (n : Numbering) (condition : Ground) (cs : List Leaf) (fms tms : List (List Leaf)) (firsts seconds sources : List Source) → SameLeaves n cs (mentions condition) → ReadEach n fms firsts → ReadEach n tms seconds
    → AreChosen condition firsts seconds sources → ReadEach n (map (λ both. cs ++ (both.0 ++ both.1)) (zip fms tms)) sources
chosen_reads n condition cs [] tms [] ts [] q a b c = tt
chosen_reads n condition cs [] tms [] ts (s ∷ ss) q a b c = absurd c
chosen_reads n condition cs (m ∷ ms) tms [] ts ss q a b c = absurd a
chosen_reads n condition cs [] tms (f ∷ fs) ts ss q a b c = absurd a
chosen_reads n condition cs (m ∷ ms) [] (f ∷ fs) [] [] q a b c = tt
chosen_reads n condition cs (m ∷ ms) [] (f ∷ fs) [] (s ∷ ss) q a b c = absurd c
chosen_reads n condition cs (m ∷ ms) (o ∷ os) (f ∷ fs) [] ss q a b c = absurd b
chosen_reads n condition cs (m ∷ ms) [] (f ∷ fs) (t ∷ ts) ss q a b c = absurd b
chosen_reads n condition cs (m ∷ ms) (o ∷ os) (f ∷ fs) (t ∷ ts) [] q a b c = absurd c
chosen_reads n condition cs (m ∷ ms) (o ∷ os) (f ∷ fs) (t ∷ ts) (s ∷ ss) q a b c = (
  subst (SameLeaves n (cs ++ (m ++ o))) (sym (chosen_mentions condition f t s c.0)) (same_append n cs (m ++ o) (mentions condition) (mentions f.expr ++ mentions t.expr) q
      (same_append n m o (mentions f.expr) (mentions t.expr) a.0 b.0)),
  chosen_reads n condition cs ms os fs ts ss q a.1 b.1 c.1,
)

-- the whole

tested : {A : Type 0} (b : Bool) (o : Option A) → IsSome (if b then o else None) → (b ≡ true) × IsSome o
tested true o h = (refl, h)
tested false o h = absurd (true≢false (sym h))

pub choice_asked : (known : Known) (es : List Expr) (a b c : Expr) → es ≡ a ∷ b ∷ c ∷ [] → IsSome (kinds.of_form (Form-F.Mux (map typed es)) known)
    → (is_one_unsigned (typed a known) ≡ true) × IsSome (option_and_then (λ ss. option_and_then (wider_each ss) (typed c known)) (typed b known))
choice_asked known es a b c is h =
    tested (is_one_unsigned (typed a known)) (option_and_then (λ ss. option_and_then (wider_each ss) (typed c known)) (typed b known)) (subst (λ l. IsSome (kinds.of_form (Form-F.Mux (map typed l)) known)) is h)

first_some : {A B : Type 0} (f : A → Option B) (o : Option A) → IsSome (option_and_then f o) → IsSome o
first_some f (Some x) h = refl
first_some f None h = absurd (true≢false (sym h))

pub first_typed : (o p : Option (List Shape)) → IsSome (option_and_then (λ ss. option_and_then (wider_each ss) p) o) → IsSome o
first_typed o p h = first_some (λ ss. option_and_then (wider_each ss) p) o h

pub second_typed : (o p : Option (List Shape)) → IsSome (option_and_then (λ ss. option_and_then (wider_each ss) p) o) → IsSome p
second_typed (Some ss) p h = first_some (wider_each ss) p h
second_typed None p h = absurd (true≢false (sym h))

pub choice_lowers : (entries : Entries) (es : List Expr) (a b c : Expr) (condition : Source) (own firsts seconds sources : List Source) → es ≡ a ∷ b ∷ c ∷ []
    → IsSome (kinds.of_form (Form-F.Mux (map typed es)) (known_of entries)) → own ≡ condition ∷ [] → IsLowered entries a own → IsLowered entries b firsts → IsLowered entries c seconds
    → AreChosen condition.expr firsts seconds sources
    → Lowers entries (kinds.of_form (Form-F.Mux (map typed es)) (known_of entries)) (tree.of_form (Form-F.Mux (map tree.value es))) (reads.of_form (Form-F.Mux (map reads.mentions es))) sources
choice_lowers entries es a b c condition own firsts seconds sources is h one la0 lb lc ch =
    let la : IsLowered entries a (condition ∷ []) = subst (IsLowered entries a) one la0 in
    let asked = choice_asked (known_of entries) es a b c is h in
    subst (λ l. Lowers entries (kinds.of_form (Form-F.Mux (map typed l)) (known_of entries)) (tree.of_form (Form-F.Mux (map tree.value l))) (reads.of_form (Form-F.Mux (map reads.mentions l))) sources) (sym is) (record {
      typed = ap (λ t. if t then option_and_then (λ ss. option_and_then (wider_each ss) (typed c (known_of entries))) (typed b (known_of entries)) else None) asked.0
          ∙ (ap₂ (λ p q. option_and_then (λ ss. option_and_then (wider_each ss) q) p) lb.typed lc.typed
          ∙ wide_all (wider_each (map told firsts) (map told seconds)) refl (ap₂ (λ p q. is_some (option_and_then (λ ss. option_and_then (wider_each ss) q) p)) (sym lb.typed) (sym lc.typed) ∙ asked.1));
      are = λ n types k.
          let wa = la.are n types k in
          let wb = lb.are n types k in
          let wc = lc.are n types k in
          record {
            values = λ instant s.
                chosen_values condition.expr n.table instant firsts seconds sources s wb.shapes wc.shapes ch
                ∙ (ap (λ t. map (λ both. one_of_two t both.0 both.1) (zip (source_values firsts instant) (source_values seconds instant))) (ap is_one (ap lone (wa.values instant s)))
                ∙ ap₂ (λ p q. map (λ both. one_of_two (tree.is_one (tree.value a (scene_seen types n instant))) both.0 both.1) (zip p q)) (wb.values instant s) (wc.values instant s));
            shapes = chosen_shapes_hold condition.expr (told condition) n.table firsts seconds sources (head_same wa.shapes) (ap is_one_unsigned (sym la.typed) ∙ asked.0) wb.shapes wc.shapes ch;
            reads = chosen_reads n condition.expr (joined (reads.mentions a types)) (reads.mentions b types) (reads.mentions c types) firsts seconds sources (joined_one n (reads.mentions a types) condition wa.reads) wb.reads wc.reads ch;
          };
    })
  where
    wide_all : (o : Option (List Shape)) → wider_each (map told firsts) (map told seconds) ≡ o → IsSome (wider_each (map told firsts) (map told seconds)) → wider_each (map told firsts) (map told seconds) ≡ Some (map told sources)
    wide_all (Some us) e h = e ∙ ap Some (chosen_told condition.expr firsts seconds sources us ch e)
    wide_all None e h = absurd (true≢false (sym (ap is_some (sym e) ∙ h)))
