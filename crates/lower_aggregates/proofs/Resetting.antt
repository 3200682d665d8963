-- The reset and the `init` of a register's leaf are those of the text.
use Rattle.std.proofs.Common.{◌≡◌, ℕ, zero, suc, min, true, false, List, [], ◌∷◌, map, pos, Option, Some, None, refl, sym, ap, ap₂, ◌∙◌, subst, arith, append-nil}
use Rattle.std.specs.Prelude.{Contains}
use Rattle.std.specs.List.{slice_get}
use Rattle.std.proofs.lemmas.Grind.{common_steps}
use Rattle.bit_words.specs.declared.value.Kind.{Kind}
use Rattle.bit_words.specs.declared.value.Kind.TheVariants.{Unsigned, Signed}
use Rattle.bit_words.specs.declared.value.Value.{Value}
use Rattle.bit_words.specs.Values.{integer_of}
use Rattle.fir_types.specs.declared.fir_type.FirType.{FirType}
use Rattle.fir_types.specs.declared.leaf.TypeLeaf.{TypeLeaf}
use Rattle.fir_types.specs.Leaves.{leaves}
use Rattle.fir_tree.specs.declared.circuit.Module.{Module}
use Rattle.fir_tree.specs.declared.expr.Expr.{Expr}
use Rattle.prim_ops.specs.Values.{fitted, lone}
use Rattle.prim_ops.specs.Values.{is_one as is_one_value}
use Rattle.fir_meaning.specs.Components.{TypedModule, Component, Leaf, kind_of_leaf, width_of_leaf, type_in}
use Rattle.fir_meaning.specs.States.{is_register, leaf_of}
use Rattle.fir_meaning.specs.Values as tree
use Rattle.fir_meaning.specs.Values.{whole, beside, fitted_to}
use Rattle.fir_meaning.specs.Drives.{left_in, set_at, setting, of_orientation}
use Rattle.fir_meaning.specs.Mentions as tree_reads
use Rattle.fir_meaning.specs.Mentions.{whole_region}
use Rattle.fir_meaning.specs.Loops.{driven_from}
use Rattle.fir_meaning.specs.WellTyped.{HasTypes, leaf_shape, is_condition, is_one_unsigned}
use Rattle.ground_net.specs.declared.net.NetReset.{NetReset}
use Rattle.ground_net.specs.Grounds.{Instant, value, mentions}
use Rattle.ground_net.proofs.Layers.{value-Const, mentions-Const}
use Rattle.ground_net.specs.Shapes.{shaped, Table, HasShapes, shape, shape_of_value, is_unsigned}
use Rattle.ground_net.proofs.Shaping.{shape-Const}
use Rattle.net_of_circuit.specs.Numbers.{number_of, scene_at, SameReads}
use Rattle.net_of_circuit.specs.Lowering.{IsReset}
use Rattle.ground_exprs.specs.Numbers.{Numbering, SameLeaves}
use Rattle.ground_exprs.specs.declared.source.Source.{Source}
use Rattle.ground_exprs.specs.Sources.{Entries, Knows, AreSources, ReadEach, IsLowered, known_of, told}
use Rattle.lower_aggregates.specs.Registers.{IsInit}
use Rattle.lower_aggregates.proofs.Setting.{one_set, one_picked, beside_at, beside_leaf, or_other, picked, IsOnlyAt}

some_same : {A : Type 0} {x y : A} → Some x ≡ Some y → x ≡ y
some_same {A} {x} e = ap (or_first x) e
  where
    or_first : A → Option A → A
    or_first d (Some z) = z
    or_first d None = d

none_some : {A : Type 0} {B : Type 0} {x : A} → None ≡ Some x → B
none_some e = absurd cc

map_at : {A B : Type 0} (h : A → B) (xs : List A) (k : ℕ) (x : A) → slice_get xs k ≡ Some x → slice_get (map h xs) k ≡ Some (h x)
map_at h [] k x e = none_some e
map_at h (a ∷ xs) zero x e = ap Some (ap h (some_same e))
map_at h (a ∷ xs) (suc k) x e = map_at h xs k x e

map_none : {A B : Type 0} (h : A → B) (xs : List A) (k : ℕ) → slice_get xs k ≡ None → slice_get (map h xs) k ≡ None
map_none h [] k e = refl
map_none h (a ∷ xs) zero e = absurd cc
map_none h (a ∷ xs) (suc k) e = map_none h xs k e

in_list : {A : Type 0} (xs : List A) (k : ℕ) (x : A) → slice_get xs k ≡ Some x → Contains xs x
in_list [] k x e = none_some e
in_list (a ∷ xs) zero x e = (0, omega arith, some_same e)
in_list (a ∷ xs) (suc k) x e = let rest = in_list xs k x e in (suc rest.0, omega arith, rest.2)

unsigned_kind : (k : Kind) (w : ℕ) → is_unsigned (shaped k w) ≡ true → k ≡ Unsigned
unsigned_kind Unsigned w e = refl
unsigned_kind Signed w e = absurd cc

read_at : (n : Numbering) (ms : List (List Leaf)) (ss : List Source) → ReadEach n ms ss → (k : ℕ) (s : Source) → slice_get ss k ≡ Some s → (l : List Leaf) × (slice_get ms k ≡ Some l) × SameLeaves n l (mentions s.expr)
read_at n [] [] r k s e = none_some e
read_at n (m ∷ ms) [] r k s e = none_some e
read_at n [] (t ∷ ss) r k s e = elim r [ ]
read_at n (m ∷ ms) (t ∷ ss) r zero s e = (m, refl, subst (λ x. SameLeaves n m (mentions x.expr)) (some_same e) r.0)
read_at n (m ∷ ms) (t ∷ ss) r (suc k) s e = read_at n ms ss r.1 k s e

read_none : (n : Numbering) (ms : List (List Leaf)) (ss : List Source) → ReadEach n ms ss → (k : ℕ) → slice_get ss k ≡ None → slice_get ms k ≡ None
read_none n [] [] r k e = refl
read_none n [] (t ∷ ss) r k e = elim r [ ]
read_none n (m ∷ ms) [] r k e = elim r [ ]
read_none n (m ∷ ms) (t ∷ ss) r zero e = absurd cc
read_none n (m ∷ ms) (t ∷ ss) r (suc k) e = read_none n ms ss r.1 k e

lone_zero : integer_of (lone []) ≡ pos 0
lone_zero = refl

module _ (holder : Module) (m : TypedModule) (table : Table) (has : HasTypes holder m) (entries : Entries)
    (knows : Knows (record { number = number_of m; table = table }) (type_in m) entries)
    (c : Component) (among : Contains m.components c) (types : type_in m c.declaration.name ≡ c.typ) (register : is_register c.declaration.sort ≡ true)
    (j : ℕ) (leaf : TypeLeaf) (there : slice_get (leaves c.typ) j ≡ Some leaf) where
  abbrev n : Numbering
  n = record { number = number_of m; table = table }

  listed : Contains (leaves c.typ) leaf
  listed = in_list (leaves c.typ) j leaf there

  narrow : min (width_of_leaf leaf) 128 ≡ width_of_leaf leaf
  narrow = let w = has.narrow c leaf among listed in grind (arith, common_steps, w)

  plain : leaf.flip ≡ false
  plain = has.held_passive c leaf among register listed

  only : {X : Type 0} (d : X) (xs : List X) → IsOnlyAt (beside d (leaves c.typ) xs) j leaf.path
  only d xs i b e p = has.ways c i j b.0 leaf among (beside_leaf d (leaves c.typ) xs i b e) there p

  -- what is set in the leaf from the values of an expression
  set_from : (instant : Instant) (vs : List Value) → left_in (leaf_of c leaf) None (set_at false (Some (whole (scene_at m instant) c.declaration.name)) vs) ≡ Some (integer_of (fitted_to leaf (integer_of (or_other (lone []) (slice_get vs j)))))
  set_from instant vs =
      ap (λ (t : FirType). left_in (leaf_of c leaf) None (map (setting c.declaration.name []) (of_orientation false (beside (lone []) (leaves t) vs)))) types
      ∙ one_set c.declaration.name (beside (lone []) (leaves c.typ) vs) j (leaf, or_other (lone []) (slice_get vs j)) None (beside_at (lone []) (leaves c.typ) vs j leaf there) plain (only (lone []) vs)

  -- what is mentioned for it
  read_from : (ms : List (List Leaf)) → tree_reads.joined (driven_from false (leaf_of c leaf) ms (Some (whole_region (type_in m) c.declaration.name))) ≡ or_other [] (slice_get ms j)
  read_from ms =
      ap (λ (t : FirType). tree_reads.joined (picked c.declaration.name t leaf.path (beside [] (leaves t) ms))) types
      ∙ ap tree_reads.joined (one_picked c.declaration.name c.typ (beside [] (leaves c.typ) ms) j (leaf, or_other [] (slice_get ms j)) (beside_at [] (leaves c.typ) ms j leaf there) plain (only [] ms))
      ∙ append-nil (or_other [] (slice_get ms j))

  module _ (reset init : Expr) (condition : is_condition (known_of entries) reset ≡ true) (s : Source) (inits : List Source) (low : IsLowered entries reset (s ∷ [])) (ini : IsLowered entries init inits)
      (made : NetReset) (is : made.reset ≡ s.expr) (set : IsInit (slice_get inits j) leaf made.init) where
    of_reset : AreSources n (λ instant. tree.value reset (scene_at m instant)) (tree_reads.mentions reset (type_in m)) (s ∷ [])
    of_reset = low.are n (type_in m) knows

    of_init : AreSources n (λ instant. tree.value init (scene_at m instant)) (tree_reads.mentions init (type_in m)) inits
    of_init = ini.are n (type_in m) knows

    shape_at : (t : Source) → slice_get inits j ≡ Some t → shape t.expr table ≡ Some (told t)
    shape_at t e = some_same (sym (map_at (λ (x : Source). shape x.expr table) inits j t e) ∙ ap (λ l. slice_get l j) of_init.shapes ∙ map_at (λ (x : Source). Some (told x)) inits j t e)

    holds_is : (instant : Instant) → HasShapes table instant → is_one_value (value made.reset instant) ≡ tree.is_one (tree.value reset (scene_at m instant))
    holds_is instant h = ap (λ e. is_one_value (value e instant)) is ∙ ap tree.is_one (of_reset.values instant h)

    reads_is : SameReads m (tree_reads.joined (tree_reads.mentions reset (type_in m))) (mentions made.reset)
    reads_is = by (tree_reads.mentions reset (type_in m)) of_reset.reads
      where
        by : (ms : List (List Leaf)) → ReadEach n ms (s ∷ []) → SameReads m (tree_reads.joined ms) (mentions made.reset)
        by [] r = elim r [ ]
        by (l ∷ (k ∷ ms)) r = elim r.1 [ ]
        by (l ∷ []) r =
            subst (λ z. SameReads m z (mentions made.reset)) (sym (append-nil l)) (subst (λ e. SameReads m l (mentions e)) (sym is) (record { only = r.0.only; all = r.0.all }))

    reset_shape_is : (w : ℕ) × (shape made.reset table ≡ Some (shaped Unsigned w))
    reset_shape_is =
        let kind = unsigned_kind s.kind s.width (sym (ap is_one_unsigned low.typed) ∙ condition) in
        let sh : shape s.expr table ≡ Some (told s) = some_same (ap (λ l. slice_get l 0) of_reset.shapes) in
        (s.width, ap (λ e. shape e table) is ∙ sh ∙ ap (λ k. Some (shaped k s.width)) kind)

    abbrev zero_value : Value
    zero_value = fitted (kind_of_leaf leaf) (min (width_of_leaf leaf) 128) (pos 0)

    zero_is : zero_value ≡ fitted_to leaf (pos 0)
    zero_is = ap (λ w. fitted (kind_of_leaf leaf) w (pos 0)) narrow

    taken_is : (instant : Instant) → HasShapes table instant → (o : Option Source) → slice_get inits j ≡ o → IsInit o leaf made.init
        → left_in (leaf_of c leaf) None (set_at false (Some (whole (scene_at m instant) c.declaration.name)) (tree.value init (scene_at m instant))) ≡ Some (integer_of (value made.init instant))
    taken_is instant h (Some t) e (fit, i, k, w, fits) =
        let vs = tree.value init (scene_at m instant) in
        let at : slice_get vs j ≡ Some (value t.expr instant) = ap (λ l. slice_get l j) (sym (of_init.values instant h)) ∙ map_at (λ (x : Source). value x.expr instant) inits j t e in
        set_from instant vs
        ∙ ap (λ o. Some (integer_of (fitted_to leaf (integer_of (or_other (lone []) o))))) at
        ∙ sym (ap (λ g. Some (integer_of (value g instant))) i ∙ ap (λ v. Some (integer_of v)) (fits.value table instant (shape_at t e) h
        ∙ ap₂ (λ a b. fitted a b (integer_of (value t.expr instant))) k (w ∙ narrow)))
    taken_is instant h None e i =
        let vs = tree.value init (scene_at m instant) in
        let at : slice_get vs j ≡ None = ap (λ l. slice_get l j) (sym (of_init.values instant h)) ∙ map_none (λ (x : Source). value x.expr instant) inits j e in
        set_from instant vs
        ∙ ap (λ o. Some (integer_of (fitted_to leaf (integer_of (or_other (lone []) o))))) at
        ∙ ap (λ x. Some (integer_of (fitted_to leaf x))) lone_zero
        ∙ sym (ap (λ g. Some (integer_of (value g instant))) i ∙ ap (λ v. Some (integer_of v)) (value-Const zero_value instant ∙ zero_is))

    init_reads_is : (o : Option Source) → slice_get inits j ≡ o → IsInit o leaf made.init
        → SameReads m (tree_reads.joined (driven_from false (leaf_of c leaf) (tree_reads.mentions init (type_in m)) (Some (whole_region (type_in m) c.declaration.name)))) (mentions made.init)
    init_reads_is (Some t) e (fit, i, k, w, fits) =
        let r = read_at n (tree_reads.mentions init (type_in m)) inits of_init.reads j t e in
        subst (λ l. SameReads m l (mentions made.init)) (sym (read_from (tree_reads.mentions init (type_in m)) ∙ ap (or_other []) r.1))
        (subst (λ l. SameReads m r.0 l) (sym (ap mentions i ∙ fits.mentions)) (record { only = r.2.only; all = r.2.all }))
    init_reads_is None e i =
        let r = read_none n (tree_reads.mentions init (type_in m)) inits of_init.reads j e in
        subst (λ l. SameReads m l (mentions made.init)) (sym (read_from (tree_reads.mentions init (type_in m)) ∙ ap (or_other []) r))
        (subst (λ l. SameReads m [] l) (sym (ap mentions i ∙ mentions-Const zero_value)) (record { only = λ x (k, below, eq). absurd (omega (arith, below)); all = λ z (k, below, eq). absurd (omega (arith, below)) }))

    init_shape_is : (o : Option Source) → slice_get inits j ≡ o → IsInit o leaf made.init → shape made.init table ≡ Some (leaf_shape leaf)
    init_shape_is (Some t) e (fit, i, k, w, fits) =
        ap (λ g. shape g table) i ∙ fits.shape table (shape_at t e) ∙ ap₂ (λ a b. Some (shaped a b)) k (w ∙ narrow)
    init_shape_is None e i =
        ap (λ g. shape g table) i ∙ shape-Const zero_value table ∙ ap (λ v. Some (shape_of_value v)) zero_is ∙ ap (λ w. Some (shaped (kind_of_leaf leaf) w)) narrow

    -- The reset of the leaf is the register's.
    pub reset_is : IsReset m table (c, leaf) reset init made
    reset_is = record {
      holds = holds_is;
      taken = λ instant h. taken_is instant h (slice_get inits j) refl set;
      reset_reads = reads_is;
      init_reads = init_reads_is (slice_get inits j) refl set;
      reset_shape = reset_shape_is;
      init_shape = init_shape_is (slice_get inits j) refl set;
    }
