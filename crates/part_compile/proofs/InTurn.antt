-- A part's assignments stand in turn.
use Rattle.std.proofs.Common.{◌≡◌, ◌≢◌, ◌==◌, ◌⊎◌, inl, inr, ⊎_elim, ℕ, zero, suc, ◌+◌, ◌<◌, ◌≤◌, Bool, true, false, List, [], ◌∷◌, length, slice_get, slice_index, Option, Some, None, option_map, option_and_then, if◌then◌else◌, pos, refl, sym, subst, ap, ◌∙◌, arith}
use Rattle.std.specs.Prelude.{Contains, IsSome}
use Rattle.std.proofs.lemmas.Bool.{cases_eq}
use Rattle.std.proofs.lemmas.Grind.{common_steps}
use Rattle.std.proofs.lemmas.Option.{slice_get_within, slice_get_past, slice_get_cases}
use Rattle.ground_net.specs.declared.ground.Ground.{Ground}
use Rattle.ground_net.specs.declared.net.Net.{Net}
use Rattle.ground_net.specs.declared.net.Leaf.{Leaf}
use Rattle.ground_net.specs.declared.net.ElementLeaf.{ElementLeaf}
use Rattle.ground_net.specs.declared.net.CutPart.{CutPart}
use Rattle.ground_net.specs.Grounds.{mentions}
use Rattle.ground_net.specs.Reads.{IsAssigned, IsOrder, Reads, driver_of, lone_driver}
use Rattle.ground_net.specs.Shapes.{Shape, Table, shape, shape_of_value}
use Rattle.ground_net.specs.Cycles.{element_leaf}
use Rattle.ground_net.specs.Nets.{IsNet, table_of, leaf_shape, element_shape}
use Rattle.ground_net.proofs.Settling.{reads_mentions}
use Rattle.ground_net.proofs.Shaping.{fitted_shape}
use Rattle.cone_cutter.specs.Splits.{IsUnion}
use Rattle.cone_cutter.proofs.Lists.{stands, cons_cases}
use Rattle.cone_cutter.proofs.Assembly.{cone_assigned}
use Rattle.cone_cutter.proofs.Splitting.{union_ordered}
use Rattle.code_draft.specs.declared.sources.Source.{Source}
use Rattle.code_draft.specs.declared.sources.Source.TheVariants as source
use Rattle.code_draft.specs.declared.sources.Elements.{Elements}
use Rattle.code_draft.specs.declared.sources.Sources.{Sources}
use Rattle.code_emit.specs.Emits.{sources_table, source_shape, elements_shape, leaf_source, element_source}
use Rattle.code_emit.proofs.Rowing.{some_of}
use Rattle.code_emit.proofs.Shaped.{some_is, some_same, none_some}
use Rattle.partition_code.specs.Sequences.{driver_in, with_leaf, with_shape, turned_table, InTurn}
use Rattle.partition_code.specs.FromNets.{IsFrom, HasElements, HasSource}
use Rattle.part_compile.specs.Complete.{AreAllOf}
use Rattle.part_compile.specs.Knowing.{Knows}
use Rattle.part_compile.proofs.Agreeing.{shape_agrees}

test_same : (x y : ℕ) → y ≡ x → (y == x) ≡ true
test_same x y e = grind (arith, common_steps, e)

test_other : (x y : ℕ) → y ≢ x → (y == x) ≡ false
test_other x y ne = grind (arith, common_steps, ne)

same_driver : (o : Option (Option Ground)) (g : Ground) → lone_driver o ≡ Some g → option_and_then (λ d. d) o ≡ Some g
same_driver (Some d) g e = e
same_driver None g e = e

-- what is known serves for fewer assignments
pub knows_for : (net : Net) (P Q : ℕ → Type 0) (table : Table) → ((y : ℕ) → Q y → P y) → Knows net P table → Knows net Q table
knows_for net P Q table f h = record { leaf = λ x q. h.leaf x (λ a. f x (q a)); element = h.element }

pub known_shape : (net : Net) (known : ℕ → Type 0) (table : Table) (g : Ground) (s : Shape) → Knows net known table → shape g (table_of net) ≡ Some s
    → ((y : ℕ) → Contains (mentions g) y → IsAssigned net.leaves y → known y) → shape g table ≡ Some s
known_shape net known table g s h e has =
    shape_agrees table (table_of net) h.element g (λ y c. h.leaf y (has y c)) ∙ e

module _ (net : Net) (w : IsNet net) where
  -- the sources of a net

  source_shape_is : (leaf : Leaf) (src : Source) → IsFrom net leaf src → source_shape src ≡ leaf_shape leaf
  source_shape_is leaf (source.Word k) h = h.0
  source_shape_is leaf (source.Input k) h = h.0
  source_shape_is leaf (source.Constant c) h = ap shape_of_value h.1 ∙ fitted_shape leaf.kind leaf.width (pos 0) leaf.narrow
  source_shape_is leaf (source.Frame s) h = absurd h

  element_is : (S : Sources) → AreAllOf net S → (m k : ℕ) (o : Option Elements) (p : Option ElementLeaf) → element_source S m k ≡ o → element_leaf net m k ≡ p
      → option_map elements_shape o ≡ option_map element_shape p
  element_is S all m k (Some e) p at there =
      let h = all.of.elements m k e at in
      let found : element_leaf net m k ≡ Some h.leaf = ap (option_and_then (λ memory. slice_get memory.elements k)) h.there ∙ h.at in
      ap Some h.shape ∙ ap (option_map element_shape) (sym found ∙ there)
  element_is S all m k None (Some leaf) at there =
      let e = some_of (element_source S m k) (all.elements m k (some_is (element_leaf net m k) leaf there)) in
      absurd (none_some (sym at ∙ e.1))
  element_is S all m k None None at there = refl

  leaf_is : (S : Sources) → AreAllOf net S → (x : ℕ) → (IsAssigned net.leaves x → ⊥) → (o : Option Leaf) → slice_get net.leaves x ≡ o → (sources_table S).leaf x ≡ (table_of net).leaf x
  leaf_is S all x none (Some leaf) there =
      let src = some_of (leaf_source S x) (all.leaves x (slice_get_within net.leaves x leaf there) none) in
      let h = all.of.leaves x src.0 src.1 in
      ap (option_map source_shape) src.1 ∙ (ap Some (source_shape_is h.leaf src.0 h.is) ∙ ap (option_map leaf_shape) (sym h.there))
  leaf_is S all x none None there =
      let past : slice_get S.leaves x ≡ None = slice_get_past S.leaves x (let long = all.counted in let le = past_end net.leaves x there in omega (arith, long, le)) in
      ap (option_map source_shape) (ap (option_and_then (λ o. o)) past) ∙ sym (ap (option_map leaf_shape) there)
    where
      past_end : {A : Type 0} (xs : List A) (k : ℕ) → slice_get xs k ≡ None → length xs ≤ k
      past_end xs k e = ⊎_elim (λ here. absurd (none_some (sym e ∙ here.2))) (λ past. past.0) (slice_get_cases xs k).1

  pub first_known : (S : Sources) → AreAllOf net S → Knows net (λ y. ⊥) (sources_table S)
  first_known S all = record {
    leaf = λ x none. leaf_is S all x none (slice_get net.leaves x) refl;
    element = λ m k. element_is S all m k (element_source S m k) (element_leaf net m k) refl refl;
  }

  -- one assignment more

  leaf_known : (known : ℕ → Type 0) (table : Table) → Knows net known table → (x : ℕ) (leaf : Leaf) → slice_get net.leaves x ≡ Some leaf
      → Knows net (λ y. known y ⊎ (x ≡ y)) (with_leaf table x (leaf_shape leaf))
  leaf_known known table h x leaf there = record {
    leaf = λ y has. ⊎_elim
        (λ same. ap (λ b. if b then Some (leaf_shape leaf) else table.leaf y) (test_same x y same) ∙ sym (ap (option_map leaf_shape) (ap (slice_get net.leaves) same ∙ there)))
        (λ other. ap (λ b. if b then Some (leaf_shape leaf) else table.leaf y) (test_other x y other)
        ∙ h.leaf y (λ a. ⊎_elim (λ k. k) (λ e. absurd (other (sym e))) (has a)))
        (cases_eq y x);
    element = h.element;
  }

  abbrev Behind : (ℕ → Type 0) → List ℕ → Type 0
  Behind known xs = (k v : ℕ) → k < length xs → Reads net (slice_index xs k) v → IsAssigned net.leaves v → ((j : ℕ) × (j < k) × (slice_index xs j ≡ v)) ⊎ known v

  abbrev AreAssignments : List ℕ → Type 0
  AreAssignments xs = (k : ℕ) → k < length xs → IsAssigned net.leaves (slice_index xs k)

  behind_first : (known : ℕ → Type 0) (x : ℕ) (xs : List ℕ) → Behind known (x ∷ xs) → (v : ℕ) → Reads net x v → IsAssigned net.leaves v → known v
  behind_first known x xs b v r a = ⊎_elim (λ h. absurd (omega (arith, h.1))) (λ h. h) (b 0 v (omega arith) r a)

  behind_rest : (known : ℕ → Type 0) (x : ℕ) (xs : List ℕ) → Behind known (x ∷ xs) → Behind (λ y. known y ⊎ (x ≡ y)) xs
  behind_rest known x xs b = λ k v lt r a. ⊎_elim (λ h. by_place k v h.0 h.1 h.2) (λ h. inr (inl h)) (b (suc k) v (omega (arith, lt)) r a)
    where
      by_place : (k v j : ℕ) → j < suc k → slice_index (x ∷ xs) j ≡ v → ((i : ℕ) × (i < k) × (slice_index xs i ≡ v)) ⊎ (known v ⊎ (x ≡ v))
      by_place k v zero lt e = inr (inr e)
      by_place k v (suc j) lt e = inl (j, omega (arith, lt), e)

  abbrev Result : (ℕ → Type 0) → Table → List ℕ → Type 0
  Result known table xs = InTurn table net.drivers xs × Knows net (λ y. known y ⊎ Contains xs y) (turned_table table net.drivers xs)

  in_turn : (xs : List ℕ) (known : ℕ → Type 0) (table : Table) → Knows net known table → AreAssignments xs → Behind known xs → Result known table xs
  in_turn [] known table h all b = (tt, knows_for net known (λ y. known y ⊎ Contains [] y) table (λ y q. ⊎_elim (λ k. k) (λ c. absurd (none_here y c)) q) h)
    where
      none_here : (y : ℕ) → Contains {X = ℕ} [] y → ⊥
      none_here y (k, below, is) = omega (arith, below)
  in_turn (x ∷ xs) known table h all b =
      let a = all 0 (omega arith) in
      let d = w.assigned x a in
      let s = leaf_shape a.leaf in
      let own : shape d.0 (table_of net) ≡ Some (leaf_shape a.leaf) = w.shapes x a.leaf d.0 a.there d.1 in
      let shaped : shape d.0 table ≡ Some (leaf_shape a.leaf) = known_shape net known table d.0 s h own
      (λ y c at. behind_first known x xs b y (subst (λ ys. Contains ys y) (sym (reads_mentions net x a.leaf d.0 a.there a.is d.1)) c) at) in
      let driver : driver_in net.drivers x ≡ Some d.0 = same_driver (slice_get net.drivers x) d.0 d.1 in
      let rest = in_turn xs (λ y. known y ⊎ (x ≡ y)) (with_leaf table x s) (leaf_known known table h x a.leaf a.there) (λ k lt. all (suc k) (omega (arith, lt))) (behind_rest known x xs b) in
      let turned : option_and_then (λ g. shape g table) (driver_in net.drivers x) ≡ Some (leaf_shape a.leaf) = ap (option_and_then (λ g. shape g table)) driver ∙ shaped in (
        (d.0, driver, s, shaped, rest.0),
        subst (λ o. Knows net (λ y. known y ⊎ Contains (x ∷ xs) y) (turned_table (with_shape table x o) net.drivers xs)) (sym turned)
            (knows_for net (λ y. (known y ⊎ (x ≡ y)) ⊎ Contains xs y) (λ y. known y ⊎ Contains (x ∷ xs) y) (turned_table (with_leaf table x s) net.drivers xs)
            (λ y q. ⊎_elim (λ k. inl (inl k)) (λ c. ⊎_elim (λ e. inl (inr e)) (λ later. inr later) (cons_cases x xs y c)) q) rest.1),
      )

  pub part_turn : (watch sequence : List ℕ) (part : CutPart) (S : Sources) → IsOrder net sequence → IsUnion net watch sequence part → AreAllOf net S → Result (λ y. ⊥) (sources_table S) part.assignments
  part_turn watch sequence part S order union all =
      in_turn part.assignments (λ y. ⊥) (sources_table S) (first_known S all)
      (λ k lt. let n = union.exactly.only (slice_index part.assignments k) (stands part.assignments (slice_index part.assignments k) k lt refl) in cone_assigned net n.inside.sink (slice_index part.assignments k) n.inside.inside)
      (λ k v lt r a. inl (union_ordered net watch sequence part order union k v lt r a))

  pub part_known : (watch sequence : List ℕ) (part : CutPart) (S : Sources) → IsOrder net sequence → IsUnion net watch sequence part → AreAllOf net S
      → Knows net (Contains part.assignments) (turned_table (sources_table S) net.drivers part.assignments)
  part_known watch sequence part S order union all =
      knows_for net (λ y. ⊥ ⊎ Contains part.assignments y) (Contains part.assignments) (turned_table (sources_table S) net.drivers part.assignments) (λ y c. inr c) (part_turn watch sequence part S order union all).1
