-- What stands at locations whose words are cut.
use Rattle.std.proofs.Common.{◌≡◌, ℕ, zero, suc, ◌+◌, ◌*◌, ◌%◌, ◌^◌, ◌<◌, ◌≤◌, Bool, true, false, nat_lt, if◌then◌else◌, List, [], ◌∷◌, length, slice_index, get_or, Option, Some, None, ap₂, sym, subst, ap, ◌∙◌, arith, mod-eq_of_lt, All}
use Rattle.std.specs.Prelude.{IfSome}
use Rattle.std.proofs.lemmas.Bool.{le-ltb}
use Rattle.bit_words.specs.declared.value.Kind.{Kind}
use Rattle.prim_ops.specs.declared.operation.PrimOp.{PrimOp}
use Rattle.ground_net.specs.Shapes.{Shape, shaped, shape_of_row}
use Rattle.ground_net.proofs.Shaping.{operation_shape}
use Rattle.flat_code.specs.declared.instr.Op.{Op}
use Rattle.flat_code.specs.declared.instr.Instr.{Instr}
use Rattle.flat_code.specs.declared.instr.Port.{Port}
use Rattle.flat_code.specs.declared.instr.Location.{Location}
use Rattle.flat_code.specs.declared.instr.Wide.{Wide}
use Rattle.flat_code.specs.Meaning.{location_value, location_values, location_high}
use Rattle.flat_code.specs.Fine.{location_shapes, AreKnown, reads_on}
use Rattle.flat_code.proofs.Evaluating.{locations_fine}
use Rattle.code_draft.specs.declared.draft.Draft.{Draft}
use Rattle.code_draft.specs.Drafts.{Stands, written_in, computes, Computes}
use Rattle.code_draft.proofs.Growing.{one_known, two_known}
use Rattle.code_draft.proofs.Cuts.{fitted_bits}
use Rattle.code_emit.specs.Working.{working}
use Rattle.code_emit.specs.declared.ways.Way.{Way}
use Rattle.code_emit.specs.Ways.{Cut, Given, IsWay, GivesRow, row_value}

no_more : (n : ℕ) → n + 0 * 2 ^ 64 ≡ n
no_more n = omega arith

pub bits_at : (F : List ℕ) (x : Location) → x.width ≤ 64 → Cut F x → (location_value F x).bits ≡ slice_index F x.low
bits_at F x few cut =
    let narrow : nat_lt 64 x.width ≡ false = le-ltb 64 x.width few in
    fitted_bits x.kind x.width (slice_index F x.low + location_high F x * 2 ^ 64) (omega (arith, few))
    ∙ (ap (λ b. (slice_index F x.low + (if b then slice_index F x.high else 0) * 2 ^ 64) % 2 ^ x.width) narrow ∙ (ap (λ n. n % 2 ^ x.width) (no_more (slice_index F x.low)) ∙ mod-eq_of_lt cut))

pub width_at : (F : List ℕ) (x : Location) → (location_value F x).width ≡ x.width
width_at F x = let h : x.width ≤ 128 = x.narrow in omega (arith, h)

pub few_at : (F : List ℕ) (x : Location) → x.width ≤ 64 → (location_value F x).width ≤ 64
few_at F x few = let e = width_at F x in omega (arith, e, few)

-- the width of a result
pub result_width : (prim : PrimOp) (params : List ℕ) (locations : List Location) (kind : Kind) (width : ℕ) (F : List ℕ) → shape_of_row prim params (location_shapes locations) ≡ Some (shaped kind width)
    → (row_value prim params (location_values F locations)).width ≡ width
result_width prim params locations kind width F h = ap (λ (s : Shape). s.width) (operation_shape prim params (location_values F locations) (location_shapes locations) (shaped kind width) (locations_fine F locations) h)

-- the first slot of a location that stands is written
pub written_low : (d : Draft) (s : Location) → Stands d s → written_in d s.low ≡ true
written_low d s h = by_width (nat_lt 64 s.width) h.written
  where
    by_width : (c : Bool) → AreKnown (written_in d) (if c then s.low ∷ s.high ∷ [] else s.low ∷ []) → written_in d s.low ≡ true
    by_width true a = a zero s.low (omega arith)
    by_width false a = a zero s.low (omega arith)

pub first_there : (P : Location → Type 0) (x : Location) (xs : List Location) → All P (x ∷ xs) → P x
first_there P x xs a = a zero x (omega arith)

pub second_there : (P : Location → Type 0) (x y : Location) (xs : List Location) → All P (x ∷ y ∷ xs) → P y
second_there P x y xs a = a (suc zero) y (omega arith)

-- instructions that read the words of locations
abbrev pub ReadsOne : Op → Type 0
ReadsOne o = (ports : List Port) (wides : List Wide) (i : Instr) → reads_on o ports wides i ≡ i.first ∷ []

abbrev pub ReadsTwo : Op → Type 0
ReadsTwo o = (ports : List Port) (wides : List Wide) (i : Instr) → reads_on o ports wides i ≡ i.first ∷ i.second ∷ []

pub one_computes : (o : Op) (shift mask k : ℕ) (d : Draft) → computes o ≡ true → ReadsOne o → shift < 64 → written_in d k ≡ true → Computes d (working o shift k 0 0 mask)
one_computes o shift mask k d plain reads lt h = record {
  plain = plain;
  known = subst (AreKnown (written_in d)) (sym (reads d.ports d.wides (working o shift k 0 0 mask))) (one_known (written_in d) k h);
  shift = lt;
}

pub two_computes : (o : Op) (shift mask : ℕ) (x y : Location) (d : Draft) → computes o ≡ true → ReadsTwo o → shift < 64 → Stands d x → Stands d y → Computes d (working o shift x.low y.low 0 mask)
two_computes o shift mask x y d plain reads lt a b = record {
  plain = plain;
  known = subst (AreKnown (written_in d)) (sym (reads d.ports d.wides (working o shift x.low y.low 0 mask))) (two_known (written_in d) x.low y.low (written_low d x a) (written_low d y b));
  shift = lt;
}

-- Answers that are there

pub some_so : {A : Type 0} {P Q : A → Type 0} (o : Option A) → IfSome o P → ((x : A) → P x → Q x) → IfSome o Q
some_so (Some x) h f = f x h
some_so None h f = tt

-- a row of an operation that is known
pub row_for : (p q : PrimOp) (w v : Way) (params : List ℕ) (locations : List Location) (width : ℕ) → p ≡ q → w ≡ v → GivesRow v q params locations width → GivesRow w p params locations width
row_for p q w v params locations width e f h = subst (λ r. GivesRow w r params locations width) (sym e) (subst (λ u. GivesRow u q params locations width) (sym f) h)

-- a way that is one for whatever is made so
pub way_row : (o : Option Way) (p q : PrimOp) (params : List ℕ) (x : Location) (width : ℕ) (Q : Given → Type 0) → p ≡ q → IfSome o (λ way. (R : Given) → Q R → IsWay way (x ∷ []) R)
    → ((kind : Kind) → shape_of_row q params (location_shapes (x ∷ [])) ≡ Some (shaped kind width) → Q (row_value q params)) → IfSome o (λ way. GivesRow way p params (x ∷ []) width)
way_row o p q params x width Q e h made =
    some_so o h (λ way f. subst (λ r. GivesRow way r params (x ∷ []) width) (sym e) (λ kind row. f (row_value q params) (made kind row)))

-- Items of slices

pub one_item : (ss : List Location) (x : Location) → 1 ≤ length ss → length ss < 2 → x ≡ get_or ss 0 x → ss ≡ x ∷ []
one_item [] x some few e = absurd (omega (arith, some))
one_item (s ∷ []) x some few e = ap (λ y. y ∷ []) (sym e)
one_item (s ∷ t ∷ ss) x some few e = absurd (omega (arith, few))

pub two_items : (ss : List Location) (x y : Location) → 2 ≤ length ss → length ss < 3 → x ≡ get_or ss 0 x → y ≡ get_or ss 1 y → ss ≡ x ∷ y ∷ []
two_items [] x y some few e f = absurd (omega (arith, some))
two_items (s ∷ []) x y some few e f = absurd (omega (arith, some))
two_items (s ∷ t ∷ []) x y some few e f = ap₂ (λ a b. a ∷ b ∷ []) (sym e) (sym f)
two_items (s ∷ t ∷ u ∷ ss) x y some few e f = absurd (omega (arith, few))

pub three_items : (ss : List Location) (x y z : Location) → 3 ≤ length ss → length ss < 4 → x ≡ get_or ss 0 x → y ≡ get_or ss 1 y → z ≡ get_or ss 2 z → ss ≡ x ∷ y ∷ z ∷ []
three_items [] x y z some few e f g = absurd (omega (arith, some))
three_items (s ∷ []) x y z some few e f g = absurd (omega (arith, some))
three_items (s ∷ t ∷ []) x y z some few e f g = absurd (omega (arith, some))
three_items (s ∷ t ∷ u ∷ []) x y z some few e f g = ap₂ (λ a bs. a ∷ bs) (sym e) (ap₂ (λ a b. a ∷ b ∷ []) (sym f) (sym g))
three_items (s ∷ t ∷ u ∷ v ∷ ss) x y z some few e f g = absurd (omega (arith, few))
