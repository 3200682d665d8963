-- Pairs of operations on two operands.
use Rattle.std.proofs.Common.{◌≡◌, ◌==◌, ℕ, ◌+◌, ◌-◌, ◌*◌, ◌%◌, ◌^◌, ◌≤◌, max, Bool, true, false, if◌then◌else◌, List, [], ◌∷◌, slice_index, Option, Some, None, option_and_then, bit_and, bit_or, bit_xor, int_lt, refl, sym, subst, ap, ap₂, ◌∙◌, arith, All, true≢false}
use Rattle.bit_words.specs.declared.value.Kind.{Kind}
use Rattle.bit_words.specs.declared.value.Kind.TheVariants.{Signed, Unsigned}
use Rattle.bit_words.specs.declared.value.Value.{Value}
use Rattle.bit_words.specs.Values.{integer_of, bits_of}
use Rattle.prim_ops.specs.declared.operation.PrimOp.{PrimOp}
use Rattle.prim_ops.specs.declared.operation.PrimOp.TheVariants as prim
use Rattle.prim_ops.specs.Kinds.{where_same, row_kind}
use Rattle.prim_ops.specs.Results.{floor_div}
use Rattle.prim_ops.specs.Values.{operation}
use Rattle.ground_net.specs.Shapes.{shaped, shape_of_row, is_row, width_of_row}
use Rattle.ground_net.proofs.Shaping.{and_then, if_some}
use Rattle.flat_code.specs.declared.instr.Op.{Op}
use Rattle.flat_code.specs.declared.instr.Op.TheVariants as op
use Rattle.flat_code.specs.declared.instr.Instr.{Instr}
use Rattle.flat_code.specs.declared.instr.Location.{Location}
use Rattle.flat_code.specs.Meaning.{location_value, location_values, word_on, minus, extension, with_sign}
use Rattle.flat_code.specs.Fine.{location_shapes}
use Rattle.code_draft.specs.declared.draft.Draft.{Draft}
use Rattle.code_draft.specs.Drafts.{Stands, Computes, written_in, computes, word_in}
use Rattle.code_draft.proofs.Growing.{two_known}
use Rattle.code_draft.proofs.Cuts.{masked}
use Rattle.code_emit.specs.declared.pairs.Pair.{Pair}
use Rattle.code_emit.specs.Working.{working, from_slots}
use Rattle.code_emit.specs.Ways.{Cut, Given, GivesWord, IsPair, IsBoth, PairsRow, turned_if, row_value}
use Rattle.code_emit.proofs.WordLaws.{HasWord, plain, signed_word, add_law, sub_law, and_law, or_law, xor_law, mul_law}
use Rattle.code_emit.proofs.Signs.{equal_signed, unequal_signed, below_signed, not_below_signed, dshl_signed, dshr_signed}
use Rattle.code_emit.proofs.There.{ReadsTwo, bits_at, width_at, few_at, result_width, written_low, first_there, second_there, one_computes}

-- an operation on the words of two values, which gives what is made of some locations
module _ (x y : Location) (p : Pair) (o : Op) (mask : ℕ) (turned : Bool) (both : IsBoth p x y o mask turned) (locations : List Location) (at_x : (P : Location → Type 0) → All P locations → P x) (at_y : (P : Location → Type 0) → All P locations → P y) where
  pub both_pair : (R : Given) (raw : ℕ → ℕ → ℕ → ℕ) → computes o ≡ true → ReadsTwo o → ((i : Instr) (words : List ℕ) (inputs : List Value) (m n c : ℕ) → word_on o i words inputs m n c ≡ raw m n i.mask)
      → ((F : List ℕ) → turned_if turned (raw (bits_of 64 (integer_of (location_value F x))) (bits_of 64 (integer_of (location_value F y))) mask) ≡ (R (location_values F locations)).bits) → IsPair p locations R
  both_pair R raw plain reads word law = record {
    first_computes = λ d a. both.first.computes d (at_x (Stands d) a);
    second_computes = λ d a. both.second.computes d (at_y (Stands d) a);
    last_computes = λ d k l e f. subst (λ i. Computes d (from_slots k l i)) (sym both.last) (two_of d k l e f);
    gives = λ words inputs F k l cut e f.
        ap₂ (λ t i. turned_if t (word_on i.op (from_slots k l i) words inputs (slice_index F k) (slice_index F l) (slice_index F i.third))) both.is_turned both.last
        ∙ (ap (turned_if turned) (word (working o 0 k l 0 mask) words inputs (slice_index F k) (slice_index F l) (slice_index F 0))
        ∙ (ap₂ (λ m n. turned_if turned (raw m n mask)) (e ∙ both.first.gives words inputs F (at_x (Cut F) cut)) (f ∙ both.second.gives words inputs F (at_y (Cut F) cut)) ∙ law F));
  }
    where
      two_of : (d : Draft) (k l : ℕ) → written_in d k ≡ true → written_in d l ≡ true → Computes d (working o 0 k l 0 mask)
      two_of d k l e f = record {
        plain = plain;
        known = subst (λ xs. All (λ j. written_in d j ≡ true) xs) (sym (reads d.ports d.wides (working o 0 k l 0 mask))) (two_known (written_in d) k l e f);
        shift = omega arith;
      }

-- instructions that give words
pub keep_gives : (x : Location) → x.width ≤ 64 → x.kind ≡ Unsigned → (mask : ℕ) (i : Instr) → mask ≡ 2 ^ 64 - 1 → i ≡ working op.Keep 0 x.low 0 0 mask → GivesWord i x
keep_gives x few kind mask i m e = record {
  computes = λ d s. subst (Computes d) (sym e) (one_computes op.Keep 0 mask x.low d refl (λ ports wides i. refl) (omega arith) (written_low d x s));
  gives = λ words inputs F cut.
      ap (λ j. word_in j words inputs F) e
      ∙ (masked (slice_index F x.low) 64 mask m ∙ (ap (λ n. n % 2 ^ 64) (sym (bits_at F x few cut)) ∙ ap (bits_of 64) (sym (plain (location_value F x) kind))));
}

pub extend_gives : (x : Location) → x.width ≤ 64 → x.kind ≡ Signed → (half : ℕ) (i : Instr) → 2 * half ≡ 2 ^ x.width → i ≡ working op.Extend 0 x.low 0 0 half → GivesWord i x
extend_gives x few kind half i double e = record {
  computes = λ d s. subst (Computes d) (sym e) (one_computes op.Extend 0 half x.low d refl (λ ports wides i. refl) (omega arith) (written_low d x s));
  gives = λ words inputs F cut.
      let v = location_value F x in
      let word = signed_word v half kind (double ∙ ap (λ n. 2 ^ n) (sym (width_at F x))) (few_at F x few) in
      ap (λ j. word_in j words inputs F) e ∙ (ap (λ n. extension n half) (sym (bits_at F x few cut)) ∙ word.is);
}

-- the second operand of a row for two of one kind
kinds_same : (b k : Kind) → where_same Signed b Unsigned ≡ Some k → b ≡ Signed
kinds_same Signed k e = refl
kinds_same Unsigned k e = absurd (true≢false (sym (ap is_there e)))
  where
    is_there : Option Kind → Bool
    is_there (Some k) = true
    is_there None = false

pub pair_for : (p q : PrimOp) (w : Pair) (params : List ℕ) (locations : List Location) (width : ℕ) → p ≡ q → PairsRow w q params locations width → PairsRow w p params locations width
pair_for p q w params locations width e h = subst (λ r. PairsRow w r params locations width) (sym e) h

word_is : (v : Value) → HasWord (bits_of 64 (integer_of v)) v
word_is v = record { is = refl }

module _ (x y : Location) (fx : x.width ≤ 64) (fy : y.width ≤ 64) (params : List ℕ) (kind : Kind) (width : ℕ) (few : width ≤ 64) (p : Pair) (mask : ℕ) where
  abbrev locations : List Location
  locations = x ∷ y ∷ []

  abbrev Row : PrimOp → Type 0
  Row q = shape_of_row q params (location_shapes locations) ≡ Some (shaped kind width)

  first_of : (P : Location → Type 0) → All P locations → P x
  first_of P a = first_there P x (y ∷ []) a

  second_of : (P : Location → Type 0) → All P locations → P y
  second_of P a = second_there P x y [] a

  abbrev result : PrimOp → List ℕ → Value
  result q F = operation q (location_value F x ∷ location_value F y ∷ []) params

  -- what is cut by the mask
  cut_pair : (q : PrimOp) (o : Op) (raw : ℕ → ℕ → ℕ) → IsBoth p x y o mask false → mask ≡ 2 ^ width - 1 → Row q → computes o ≡ true → ReadsTwo o
      → ((i : Instr) (words : List ℕ) (inputs : List Value) (m n c : ℕ) → word_on o i words inputs m n c ≡ bit_and (raw m n) i.mask)
      → ((F : List ℕ) → raw (bits_of 64 (integer_of (location_value F x))) (bits_of 64 (integer_of (location_value F y))) % 2 ^ (result q F).width ≡ (result q F).bits) → IsPair p locations (row_value q params)
  cut_pair q o raw both m h plain reads word law =
      both_pair x y p o mask false both locations first_of second_of (row_value q params) (λ a b c. bit_and (raw a b) c) plain reads word (λ F.
      masked (raw (bits_of 64 (integer_of (location_value F x))) (bits_of 64 (integer_of (location_value F y)))) width mask m
      ∙ (ap (λ w. raw (bits_of 64 (integer_of (location_value F x))) (bits_of 64 (integer_of (location_value F y))) % 2 ^ w) (sym (result_width q params locations kind width F h)) ∙ law F))

  few_of : (q : PrimOp) (F : List ℕ) → Row q → (result q F).width ≤ 64
  few_of q F h = let e = result_width q params locations kind width F h in omega (arith, e, few)

  most : (v w : ℕ) → v ≤ 64 → w ≤ 64 → max v w ≤ 64
  most v w h k = omega (arith, h, k)

  pub add_pair : IsBoth p x y op.Add mask false → mask ≡ 2 ^ width - 1 → Row prim.Add → IsPair p locations (row_value prim.Add params)
  add_pair both m h = cut_pair prim.Add op.Add (λ a b. (a + b) % 2 ^ 64) both m h refl (λ ports wides i. refl) (λ i words inputs a b c. refl) (λ F.
      let v = location_value F x in
      let w = location_value F y in
      add_law params (bits_of 64 (integer_of v)) (bits_of 64 (integer_of w)) v w (word_is v) (word_is w) (few_of prim.Add F h))

  pub sub_pair : IsBoth p x y op.Sub mask false → mask ≡ 2 ^ width - 1 → Row prim.Sub → IsPair p locations (row_value prim.Sub params)
  sub_pair both m h = cut_pair prim.Sub op.Sub minus both m h refl (λ ports wides i. refl) (λ i words inputs a b c. refl) (λ F.
      let v = location_value F x in
      let w = location_value F y in
      sub_law params (bits_of 64 (integer_of v)) (bits_of 64 (integer_of w)) v w (word_is v) (word_is w) (few_of prim.Sub F h))

  pub and_pair : IsBoth p x y op.And mask false → mask ≡ 2 ^ width - 1 → Row prim.And → IsPair p locations (row_value prim.And params)
  and_pair both m h = cut_pair prim.And op.And bit_and both m h refl (λ ports wides i. refl) (λ i words inputs a b c. refl) (λ F.
      let v = location_value F x in
      let w = location_value F y in
      and_law params (bits_of 64 (integer_of v)) (bits_of 64 (integer_of w)) v w (word_is v) (word_is w) (most v.width w.width (few_at F x fx) (few_at F y fy)))

  pub or_pair : IsBoth p x y op.Or mask false → mask ≡ 2 ^ width - 1 → Row prim.Or → IsPair p locations (row_value prim.Or params)
  or_pair both m h = cut_pair prim.Or op.Or bit_or both m h refl (λ ports wides i. refl) (λ i words inputs a b c. refl) (λ F.
      let v = location_value F x in
      let w = location_value F y in
      or_law params (bits_of 64 (integer_of v)) (bits_of 64 (integer_of w)) v w (word_is v) (word_is w) (most v.width w.width (few_at F x fx) (few_at F y fy)))

  pub xor_pair : IsBoth p x y op.Xor mask false → mask ≡ 2 ^ width - 1 → Row prim.Xor → IsPair p locations (row_value prim.Xor params)
  xor_pair both m h = cut_pair prim.Xor op.Xor bit_xor both m h refl (λ ports wides i. refl) (λ i words inputs a b c. refl) (λ F.
      let v = location_value F x in
      let w = location_value F y in
      xor_law params (bits_of 64 (integer_of v)) (bits_of 64 (integer_of w)) v w (word_is v) (word_is w) (most v.width w.width (few_at F x fx) (few_at F y fy)))

  -- tests of two values with signs
  second_kind : (q : PrimOp) → row_kind q (x.kind ∷ y.kind ∷ []) ≡ where_same x.kind y.kind Unsigned → x.kind ≡ Signed → Row q → y.kind ≡ Signed
  second_kind q table k h =
      let w = width_of_row q (location_shapes locations) params in
      let row = if_some (is_row q (location_shapes locations) params w) (option_and_then (λ kind. Some (shaped kind w)) (row_kind q (x.kind ∷ y.kind ∷ []))) (shaped kind width) h in
      let found = and_then (λ kind. Some (shaped kind w)) (row_kind q (x.kind ∷ y.kind ∷ [])) (shaped kind width) row.1 in
      kinds_same y.kind found.0 (ap (λ a. where_same a y.kind Unsigned) (sym k) ∙ (sym table ∙ found.1))

  pub equal_pair : x.kind ≡ Signed → IsBoth p x y op.Equal mask false → Row prim.Eq → IsPair p locations (row_value prim.Eq params)
  equal_pair k both h =
      both_pair x y p op.Equal mask false both locations first_of second_of (row_value prim.Eq params) (λ a b c. if a == b then 1 else 0) refl (λ ports wides i. refl) (λ i words inputs a b c. refl) (λ F.
      equal_signed params (location_value F x) (location_value F y) k (second_kind prim.Eq refl k h) (few_at F x fx) (few_at F y fy))

  pub unequal_pair : x.kind ≡ Signed → IsBoth p x y op.Equal mask true → Row prim.Neq → IsPair p locations (row_value prim.Neq params)
  unequal_pair k both h =
      both_pair x y p op.Equal mask true both locations first_of second_of (row_value prim.Neq params) (λ a b c. if a == b then 1 else 0) refl (λ ports wides i. refl) (λ i words inputs a b c. refl) (λ F.
      unequal_signed params (location_value F x) (location_value F y) k (second_kind prim.Neq refl k h) (few_at F x fx) (few_at F y fy))

  pub mul_pair : IsBoth p x y op.Mul mask false → mask ≡ 2 ^ width - 1 → Row prim.Mul → IsPair p locations (row_value prim.Mul params)
  mul_pair both m h = cut_pair prim.Mul op.Mul (λ a b. (a * b) % 2 ^ 64) both m h refl (λ ports wides i. refl) (λ i words inputs a b c. refl) (λ F.
      let v = location_value F x in
      let w = location_value F y in
      mul_law params (bits_of 64 (integer_of v)) (bits_of 64 (integer_of w)) v w (word_is v) (word_is w) (few_of prim.Mul F h))

  pub dshl_pair : y.kind ≡ Unsigned → IsBoth p x y op.LeftBy mask false → mask ≡ 2 ^ width - 1 → Row prim.Dshl → IsPair p locations (row_value prim.Dshl params)
  dshl_pair l both m h = cut_pair prim.Dshl op.LeftBy (λ a b. (a * 2 ^ b) % 2 ^ 64) both m h refl (λ ports wides i. refl) (λ i words inputs a b c. refl) (λ F.
      dshl_signed params (location_value F x) (location_value F y) l (few_at F y fy) (few_of prim.Dshl F h))

  pub dshr_pair : x.kind ≡ Signed → y.kind ≡ Unsigned → IsBoth p x y op.RightSigned mask false → mask ≡ 2 ^ width - 1 → Row prim.Dshr → IsPair p locations (row_value prim.Dshr params)
  dshr_pair k l both m h =
      cut_pair prim.Dshr op.RightSigned (λ a b. bits_of 64 (floor_div (with_sign a) (2 ^ b))) both m h refl (λ ports wides i. refl) (λ i words inputs a b c. refl) (λ F.
      dshr_signed params (location_value F x) (location_value F y) k l (few_at F x fx) (few_at F y fy) (few_of prim.Dshr F h))

  abbrev below : ℕ → ℕ → ℕ → ℕ
  below a b c = if int_lt (with_sign a) (with_sign b) then 1 else 0

  pub less_pair : x.kind ≡ Signed → IsBoth p x y op.Below mask false → Row prim.Lt → IsPair p locations (row_value prim.Lt params)
  less_pair k both h = both_pair x y p op.Below mask false both locations first_of second_of (row_value prim.Lt params) below refl (λ ports wides i. refl) (λ i words inputs a b c. refl) (λ F.
      below_signed params (location_value F x) (location_value F y) k (second_kind prim.Lt refl k h) (few_at F x fx) (few_at F y fy))

  pub greater_pair : x.kind ≡ Signed → IsBoth p y x op.Below mask false → Row prim.Gt → IsPair p locations (row_value prim.Gt params)
  greater_pair k both h = both_pair y x p op.Below mask false both locations second_of first_of (row_value prim.Gt params) below refl (λ ports wides i. refl) (λ i words inputs a b c. refl) (λ F.
      below_signed params (location_value F y) (location_value F x) (second_kind prim.Gt refl k h) k (few_at F y fy) (few_at F x fx))

  pub at_most_pair : x.kind ≡ Signed → IsBoth p y x op.Below mask true → Row prim.Leq → IsPair p locations (row_value prim.Leq params)
  at_most_pair k both h = both_pair y x p op.Below mask true both locations second_of first_of (row_value prim.Leq params) below refl (λ ports wides i. refl) (λ i words inputs a b c. refl) (λ F.
      not_below_signed params (location_value F x) (location_value F y) k (second_kind prim.Leq refl k h) (few_at F x fx) (few_at F y fy))

  pub at_least_pair : x.kind ≡ Signed → IsBoth p x y op.Below mask true → Row prim.Geq → IsPair p locations (row_value prim.Geq params)
  at_least_pair k both h = both_pair x y p op.Below mask true both locations first_of second_of (row_value prim.Geq params) below refl (λ ports wides i. refl) (λ i words inputs a b c. refl) (λ F.
      not_below_signed params (location_value F y) (location_value F x) (second_kind prim.Geq refl k h) k (few_at F y fy) (few_at F x fx))
