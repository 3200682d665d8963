-- Operations on the results of operations.
use Rattle.std.proofs.Common.{◌≡◌, ℕ, zero, suc, ◌+◌, ◌-◌, ◌/◌, ◌%◌, ◌^◌, ◌<◌, ◌≤◌, ◌==◌, ◌&&◌, nat_le, nat_lt, List, [], ◌∷◌, map, length, slice_index, Option, Some, None, option_and_then, min, refl, sym, subst, ap, ◌∙◌, arith, All, ⊎_elim}
use Rattle.std.specs.Prelude.{IsSome, IfSome}
use Rattle.std.proofs.lemmas.Bool.{ltb-true}
use Rattle.bit_words.specs.declared.value.Kind.{Kind}
use Rattle.bit_words.specs.declared.value.Value.{Value}
use Rattle.prim_ops.specs.declared.operation.PrimOp.{PrimOp}
use Rattle.prim_ops.specs.declared.operation.PrimOp.TheVariants as prim
use Rattle.prim_ops.specs.Operations.{arity_of}
use Rattle.prim_ops.specs.Kinds.{row_kind}
use Rattle.prim_ops.specs.Results.{integer_result}
use Rattle.prim_ops.proofs.Residues.{word_low}
use Rattle.prim_ops.specs.Values.{operation}
use Rattle.ground_net.specs.declared.ground.Ground.{Ground}
use Rattle.ground_net.specs.declared.ground.Ground.TheVariants.{Op}
use Rattle.ground_net.specs.Grounds.{value}
use Rattle.ground_net.proofs.Layers.{value-Op}
use Rattle.ground_net.specs.Shapes.{Shape, shaped, shape_of_value, Table, shape, all_of, params_fit, is_row, width_of_row, shape_of_row}
use Rattle.ground_net.proofs.Shaping.{and_then, if_some, both_true, operation_shape}
use Rattle.flat_code.specs.declared.instr.Location.{Location}
use Rattle.flat_code.specs.Meaning.{location_shape, location_values}
use Rattle.flat_code.specs.Fine.{location_shapes}
use Rattle.flat_code.proofs.Evaluating.{locations_fine}
use Rattle.code_draft.specs.declared.draft.Draft.{Draft}
use Rattle.code_draft.specs.Drafts.{IsDraft, Stands, Makes}
use Rattle.code_draft.proofs.Growing.{grows_then}
use Rattle.code_draft.proofs.Held.{held_value}
use Rattle.code_emit.specs.Ways.{Cut, IsMade, IsLowest, row_value}
use Rattle.code_draft.specs.declared.sources.Sources.{Sources}
use Rattle.code_emit.specs.Emits.{AreShaped, shapes_in, sources_table, Emits, EmitsAll}
use Rattle.code_emit.specs.Nested.{nested_value, nested_shape, TakesLowest}
use Rattle.code_emit.proofs.Rowing.{some_of}
use Rattle.code_emit.proofs.Shaped.{op_parts, locations_are}
use Rattle.code_emit.proofs.Arms.{op_shaped, op_row}
use Rattle.code_emit.proofs.Emitting.{made, cut_there}

-- Lowest bits

over_one : (n : ℕ) → n / 2 ^ 0 ≡ n
over_one n = omega arith

lowest_bits : (o : PrimOp) (ps : List ℕ) (s : Value) → TakesLowest o ps → (operation o (s ∷ []) ps).bits ≡ s.bits % 2 ^ (operation o (s ∷ []) ps).width
lowest_bits o ps s t =
    ⊎_elim
    (λ e. subst (λ q. (operation q (s ∷ []) ps).bits ≡ s.bits % 2 ^ (operation q (s ∷ []) ps).width) (sym e) refl)
    (λ e.
    subst (λ q. (operation q (s ∷ []) ps).bits ≡ s.bits % 2 ^ (operation q (s ∷ []) ps).width) (sym e.0)
    (ap (λ n. s.bits / 2 ^ n % 2 ^ (operation prim.Bits (s ∷ []) ps).width) e.1 ∙ ap (λ n. n % 2 ^ (operation prim.Bits (s ∷ []) ps).width) (over_one s.bits)))
    t

highest_in : (ps : List ℕ) (u t : Shape) → shape_of_row prim.Bits ps (u ∷ []) ≡ Some t → slice_index ps 0 < u.width
highest_in ps u t h =
    let width = width_of_row prim.Bits (u ∷ []) ps in
    let row = if_some (is_row prim.Bits (u ∷ []) ps width) (option_and_then (λ kind. Some (shaped kind width)) (row_kind prim.Bits (map (λ (s : Shape). s.kind) (u ∷ [])))) t h in
    let fine = both_true ((length (u ∷ []) == (arity_of prim.Bits).0) && (length ps == (arity_of prim.Bits).1)) (params_fit prim.Bits (u ∷ []) ps && nat_le width 128) row.0 in
    let fits = both_true (params_fit prim.Bits (u ∷ []) ps) (nat_le width 128) fine.1 in
    let both = both_true (nat_le (slice_index ps 1) (slice_index ps 0)) (nat_lt (slice_index ps 0) u.width) fits.0 in
    ltb-true (slice_index ps 0) u.width both.1

lowest_width : (o : PrimOp) (ps : List ℕ) (s : Value) (t : Shape) → TakesLowest o ps → shape_of_row o ps (shape_of_value s ∷ []) ≡ Some t → (operation o (s ∷ []) ps).width ≤ s.width
lowest_width o ps s t takes h =
    ⊎_elim
    (λ e. subst (λ q. (operation q (s ∷ []) ps).width ≤ s.width) (sym e) (tail_few s.width (slice_index ps 0)))
    (λ e. subst (λ q. (operation q (s ∷ []) ps).width ≤ s.width) (sym e.0) (bits_few s.width (slice_index ps 0) (slice_index ps 1) (highest_in ps (shape_of_value s) t (subst (λ q. shape_of_row q ps (shape_of_value s ∷ []) ≡ Some t) e.0 h))))
    takes
  where
    tail_few : (w n : ℕ) → min (w - n) 128 ≤ w
    tail_few w n = omega arith

    bits_few : (w high low : ℕ) → high < w → min (high + 1 - low) 128 ≤ w
    bits_few w high low lt = omega (arith, lt)

pub nested_lowest : (p : PrimOp) (qs : List ℕ) (o : PrimOp) (ps : List ℕ) (ss : List Location) (kind : Kind) (width : ℕ) → TakesLowest o ps → nested_shape p qs o ps (location_shapes ss) ≡ Some (shaped kind width)
    → IsLowest p qs width ss (nested_value p qs o ps)
nested_lowest p qs o ps ss kind width takes h F =
    let vs = location_values F ss in
    let s = operation p vs qs in
    let parts = and_then (λ t. shape_of_row o ps (t ∷ [])) (shape_of_row p qs (location_shapes ss)) (shaped kind width) h in
    let inner : shape_of_value s ≡ parts.0 = operation_shape p qs vs (location_shapes ss) parts.0 (locations_fine F ss) parts.1 in
    let outer : shape_of_value (operation o (s ∷ []) ps) ≡ shaped kind width = operation_shape o ps (s ∷ []) (parts.0 ∷ []) (shaped kind width) (ap (λ t. t ∷ []) inner) parts.2 in
    let w : (operation o (s ∷ []) ps).width ≡ width = ap (λ (t : Shape). t.width) outer in
    let le : (operation o (s ∷ []) ps).width ≤ s.width = lowest_width o ps s (shaped kind width) takes (subst (λ t. shape_of_row o ps (t ∷ []) ≡ Some (shaped kind width)) (sym inner) parts.2) in
    let few : width ≤ s.width = subst (λ n. n ≤ s.width) w le in
    lowest_bits o ps s takes ∙ (ap (λ n. s.bits % 2 ^ n) w ∙ word_low width s.width s.bits (integer_result p vs qs) few refl)

-- One operation after the other

pub some_inner : {A B : Type 0} (f : A → Option B) (o : Option A) → IsSome (option_and_then f o) → IsSome o
some_inner f (Some x) h = refl
some_inner f None h = h

pub one_all : (P : Location → Type 0) (m : Location) → P m → All P (m ∷ [])
one_all P m h zero d lt = h
one_all P m h (suc k) d lt = absurd (omega (arith, lt))

pub both_make : (p : PrimOp) (qs : List ℕ) (o : PrimOp) (ps : List ℕ) (d e f : Draft) (ss : List Location) (m s : Location) → (IsDraft d → All (Stands d) ss → Makes d e m (IsMade (row_value p qs) ss (location_shape m)))
    → (IsDraft e → All (Stands e) (m ∷ []) → Makes e f s (IsMade (row_value o ps) (m ∷ []) (location_shape s))) → shape_of_row p qs (location_shapes ss) ≡ Some (location_shape m) → IsDraft d → All (Stands d) ss
    → Makes d f s (IsMade (nested_value p qs o ps) ss (location_shape s))
both_make p qs o ps d e f ss m s first next is_shape is there =
    let a = first is there in
    let b = next a.grows.is (one_all (Stands e) m a.stands) in
    record {
      grows = grows_then d e f a.grows b.grows;
      stands = b.stands;
      holds = λ words inputs F v sol wanted.
          let u = row_value p qs (location_values F ss) in
          let shape_u = operation_shape p qs (location_values F ss) (location_shapes ss) (location_shape m) (locations_fine F ss) is_shape in
          let held = a.holds words inputs F u (b.grows.back words inputs F sol) (refl, shape_u, wanted.2) in
          b.holds words inputs F v sol (wanted.0 ∙ ap (λ x. operation o (x ∷ []) ps) (sym (held_value F m u held)), wanted.1, one_all (Cut F) m (cut_there F m u held));
    }

-- The variant

module _ (table : Table) (g : Ground) (some : IsSome (shape g table)) (o : PrimOp) (ps : List ℕ) (p : PrimOp) (qs : List ℕ) (gs : List Ground) (e : g ≡ Op o (Op p gs qs ∷ []) ps) where
  inner_some : IsSome (shape (Op p gs qs) table)
  inner_some = op_shaped table g some o (Op p gs qs ∷ []) ps e 0 (Op p gs qs) (omega arith)

  pub nested_shaped : AreShaped table gs
  nested_shaped = op_shaped table (Op p gs qs) inner_some p gs qs refl

  pub nested_row : (ss : List Location) → all_of (shapes_in table gs) ≡ Some (location_shapes ss) → nested_shape p qs o ps (location_shapes ss) ≡ shape g table
  nested_row ss all =
      let h = Op p gs qs in
      let row = op_row table h inner_some p gs qs ss refl all in
      let whole = some_of (shape h table) inner_some in
      let parts = op_parts table g some o (h ∷ []) ps e in
      let same = locations_are (shapes_in table (h ∷ [])) (whole.0 ∷ []) parts.0 (ap (λ x. all_of (x ∷ [])) whole.1) parts.1 in
      ap (option_and_then (λ s. shape_of_row o ps (s ∷ []))) (row ∙ whole.1) ∙ (ap (shape_of_row o ps) same ∙ parts.2)

pub nested_emits : (S : Sources) (g : Ground) (o : PrimOp) (ps : List ℕ) (p : PrimOp) (qs : List ℕ) (gs : List Ground) (a b c : Draft) (ss : List Location) (s : Location) (t : Shape) → g ≡ Op o (Op p gs qs ∷ []) ps → EmitsAll S gs a b ss
    → (IsDraft b → All (Stands b) ss → Makes b c s (IsMade (nested_value p qs o ps) ss t)) → shape g (sources_table S) ≡ Some t → Emits S g a c s
nested_emits S g o ps p qs gs a b c ss s t e all last at =
    made S g gs a b c ss s (nested_value p qs o ps) t all last at (λ instant.
    ap (λ h. value h instant) e ∙ (value-Op o (Op p gs qs ∷ []) ps instant ∙ ap (λ v. operation o (v ∷ []) ps) (value-Op p gs qs instant)))

pub some_both : {A : Type 0} (P Q : A → Type 0) (o : Option A) → IfSome o P → IfSome o Q → IfSome o (λ x. P x × Q x)
some_both P Q (Some x) h k = (h, k)
some_both P Q None h k = tt
