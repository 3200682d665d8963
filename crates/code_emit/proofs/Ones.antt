-- Ways of one operand.
use Rattle.std.proofs.Common.{◌≡◌, ℕ, ◌+◌, ◌-◌, ◌*◌, ◌/◌, ◌%◌, ◌^◌, ◌<◌, ◌≤◌, min, max, true, not, ◌==◌, if◌then◌else◌, pos, ◌*ℤ◌, bit_and, count_ones, List, [], ◌∷◌, slice_index, Some, refl, sym, ap, ap₂, ◌∙◌, arith, mod-eq_of_lt, pow_mono, pow-add, All}
use Rattle.bit_words.specs.declared.value.Kind.{Kind}
use Rattle.bit_words.specs.declared.value.Kind.TheVariants.{Unsigned, Signed}
use Rattle.bit_words.specs.declared.value.Value.{Value}
use Rattle.bit_words.specs.Values.{integer, integer_of, bits_of}
use Rattle.bit_words.proofs.Congruence.{bits_back}
use Rattle.prim_ops.specs.declared.operation.PrimOp.{PrimOp}
use Rattle.prim_ops.specs.declared.operation.PrimOp.TheVariants as prim
use Rattle.prim_ops.specs.Results.{floor_div}
use Rattle.prim_ops.specs.Widths.{width_on_one}
use Rattle.prim_ops.proofs.Residues.{word_low}
use Rattle.prim_ops.specs.Values.{operation}
use Rattle.ground_net.specs.Shapes.{shaped, shape_of_row}
use Rattle.flat_code.specs.declared.instr.Op.TheVariants as op
use Rattle.flat_code.specs.declared.instr.Location.{Location}
use Rattle.flat_code.specs.Meaning.{location_value, extension}
use Rattle.flat_code.specs.Fine.{location_shapes}
use Rattle.code_draft.specs.declared.draft.Draft.{Draft}
use Rattle.code_draft.specs.Drafts.{Stands, written_in}
use Rattle.code_draft.proofs.Cuts.{masked}
use Rattle.code_emit.specs.Working.{working}
use Rattle.code_emit.specs.Ways.{Cut, Given, Rests, Operates, Follow, Refits, Shifts, row_value, fit_of_one}
use Rattle.code_emit.proofs.Shifting.{shifted_signed}
use Rattle.code_emit.proofs.WordLaws.{plain, plain_word, not_law, signed_word, raised, by_test, turned_test}
use Rattle.code_emit.proofs.There.{bits_at, width_at, few_at, result_width, written_low, first_there, one_computes}

pub half_double : (w : ℕ) → 0 < w → 2 * 2 ^ (w - 1) ≡ 2 ^ w
half_double w some = let exponent : 1 + (w - 1) ≡ w = omega (arith, some) in sym (pow-add 2 1 (w - 1)) ∙ ap (λ n. 2 ^ n) exponent

module _ (x : Location) (few : x.width ≤ 64) where
  low_at : (F : List ℕ) → All (Cut F) (x ∷ []) → slice_index F x.low ≡ (location_value F x).bits
  low_at F cut = sym (bits_at F x few (first_there (Cut F) x [] cut))

  low_written : (d : Draft) → All (Stands d) (x ∷ []) → written_in d x.low ≡ true
  low_written d a = written_low d x (first_there (Stands d) x [] a)

  -- a value's bits are its integer's
  pub own_bits : (v : Value) → v.bits ≡ bits_of v.width (integer_of v)
  own_bits v = sym (bits_back v.kind v.width v.bits v.within)

  module _ (width : ℕ) (R : Given) where
    -- a value of the same width
    pub same_rests : Refits x width R → width ≡ x.width → Rests x.low (x ∷ []) R
    same_rests fits e = record {
      written = low_written;
      gives = λ F cut.
          let v = location_value F x in
          low_at F cut ∙ (own_bits v ∙ (ap (λ w. bits_of w (integer_of v)) (width_at F x ∙ sym e) ∙ sym (fits F)));
    }

    -- a UInt of a greater width
    pub plain_rests : Refits x width R → x.kind ≡ Unsigned → x.width ≤ width → Rests x.low (x ∷ []) R
    plain_rests fits kind le = record {
      written = low_written;
      gives = λ F cut.
          let v = location_value F x in
          let within : v.bits < 2 ^ v.width = v.within in
          let w = width_at F x in
          let most : 2 ^ v.width ≤ 2 ^ width = pow_mono (omega (arith, w, le)) in
          low_at F cut ∙ (sym (mod-eq_of_lt (omega (arith, within, most))) ∙ (ap (bits_of width) (sym (plain v kind)) ∙ sym (fits F)));
    }

    -- a value of a smaller width
    pub keep_operates : (mask : ℕ) → Refits x width R → width ≤ x.width → mask ≡ 2 ^ width - 1 → Operates (working op.Keep 0 x.low 0 0 mask) (x ∷ []) R
    keep_operates mask fits le m = record {
      computes = λ d a. one_computes op.Keep 0 mask x.low d refl (λ ports wides i. refl) (omega arith) (low_written d a);
      gives = λ words inputs F cut.
          let v = location_value F x in
          let w = width_at F x in
          masked (slice_index F x.low) width mask m ∙ (ap (λ n. n % 2 ^ width) (low_at F cut) ∙ (word_low width v.width v.bits (integer_of v) (omega (arith, w, le)) (own_bits v) ∙ sym (fits F)));
    }

    -- a value with a sign, of a greater width
    pub signed_follow : (half mask : ℕ) → Refits x width R → x.kind ≡ Signed → 2 * half ≡ 2 ^ x.width → width ≤ 64 → mask ≡ 2 ^ width - 1
        → Follow (working op.Extend 0 x.low 0 0 half) (working op.Keep 0 x.low 0 0 mask) (x ∷ []) R
    signed_follow half mask fits kind double le m = record {
      computes = λ d a. one_computes op.Extend 0 half x.low d refl (λ ports wides i. refl) (omega arith) (low_written d a);
      then_computes = λ d k h. one_computes op.Keep 0 mask k d refl (λ ports wides i. refl) (omega arith) h;
      gives = λ words inputs F k cut first.
          let v = location_value F x in
          let word = signed_word v half kind (double ∙ ap (λ n. 2 ^ n) (sym (width_at F x))) (few_at F x few) in
          masked (slice_index F k) width mask m
          ∙ (ap (λ n. n % 2 ^ width) (first ∙ ap (λ n. extension n half) (low_at F cut)) ∙ (word_low width 64 (extension v.bits half) (integer_of v) le word.is ∙ sym (fits F)));
    }

    -- bits from one on
    pub right_operates : (low mask : ℕ) → Shifts x low width R → low < 64 → mask ≡ 2 ^ width - 1 → Operates (working op.Right low x.low 0 0 mask) (x ∷ []) R
    right_operates low mask shifts lt m = record {
      computes = λ d a. one_computes op.Right low mask x.low d refl (λ ports wides i. refl) lt (low_written d a);
      gives = λ words inputs F cut. masked (slice_index F x.low / 2 ^ low) width mask m ∙ (ap (λ n. n / 2 ^ low % 2 ^ width) (low_at F cut) ∙ sym (shifts F));
    }

  -- what is fitted has the bits of its integer
  pub fit_refits : (kind : Kind) (width : ℕ) → width ≤ 64 → Refits x width (fit_of_one kind width)
  fit_refits kind width le F = let e : min width 128 ≡ width = omega (arith, le) in ap (λ w. bits_of w (integer_of (location_value F x))) e

  -- Rows of the table
  module _ (params : List ℕ) (kind : Kind) (width : ℕ) where
    abbrev Row : PrimOp → Type 0
    Row p = shape_of_row p params (location_shapes (x ∷ [])) ≡ Some (shaped kind width)

    width_of : (p : PrimOp) (F : List ℕ) → Row p → (operation p (location_value F x ∷ []) params).width ≡ width
    width_of p F h = result_width p params (x ∷ []) kind width F h

    pub pad_refits : Row prim.Pad → Refits x width (row_value prim.Pad params)
    pad_refits h F = ap (λ w. bits_of w (integer_of (location_value F x))) (width_of prim.Pad F h)

    pub cvt_refits : Row prim.Cvt → Refits x width (row_value prim.Cvt params)
    cvt_refits h F = ap (λ w. bits_of w (integer_of (location_value F x))) (width_of prim.Cvt F h)

    own_width : (v : Value) → v.bits ≡ v.bits % 2 ^ min v.width 128
    own_width v =
        let h : v.width ≤ 128 = v.narrow in
        let e : v.width ≡ min v.width 128 = omega (arith, h) in
        sym (mod-eq_of_lt v.within) ∙ ap (λ w. v.bits % 2 ^ w) e

    pub as_uint_rests : Rests x.low (x ∷ []) (row_value prim.AsUInt params)
    as_uint_rests = record { written = low_written; gives = λ F cut. low_at F cut ∙ own_width (location_value F x) }

    pub as_sint_rests : Rests x.low (x ∷ []) (row_value prim.AsSInt params)
    as_sint_rests = record { written = low_written; gives = λ F cut. low_at F cut ∙ own_width (location_value F x) }

    pub not_operates : (mask : ℕ) → Row prim.Not → mask ≡ 2 ^ width - 1 → Operates (working op.Not 0 x.low 0 0 mask) (x ∷ []) (row_value prim.Not params)
    not_operates mask h m = record {
      computes = λ d a. one_computes op.Not 0 mask x.low d refl (λ ports wides i. refl) (omega arith) (low_written d a);
      gives = λ words inputs F cut.
          masked (2 ^ 64 - 1 - slice_index F x.low) width mask m
          ∙ (ap₂ (λ n w. (2 ^ 64 - 1 - n) % 2 ^ w) (low_at F cut) (sym (width_of prim.Not F h)) ∙ not_law params (location_value F x) (few_at F x few));
    }

    pub tail_operates : (mask : ℕ) → Row prim.Tail → mask ≡ 2 ^ width - 1 → Operates (working op.Keep 0 x.low 0 0 mask) (x ∷ []) (row_value prim.Tail params)
    tail_operates mask h m = record {
      computes = λ d a. one_computes op.Keep 0 mask x.low d refl (λ ports wides i. refl) (omega arith) (low_written d a);
      gives = λ words inputs F cut. masked (slice_index F x.low) width mask m ∙ ap₂ (λ n w. n % 2 ^ w) (low_at F cut) (sym (width_of prim.Tail F h));
    }

    -- the lowest bit of the value
    pub async_operates : (mask : ℕ) → Row prim.AsAsyncReset → mask ≡ 2 ^ width - 1 → Operates (working op.Keep 0 x.low 0 0 mask) (x ∷ []) (row_value prim.AsAsyncReset params)
    async_operates mask h m = record {
      computes = λ d a. one_computes op.Keep 0 mask x.low d refl (λ ports wides i. refl) (omega arith) (low_written d a);
      gives = λ words inputs F cut. masked (slice_index F x.low) width mask m ∙ ap₂ (λ n w. n % 2 ^ w) (low_at F cut) (sym (width_of prim.AsAsyncReset F h));
    }

    pub bits_shifts : Row prim.Bits → Shifts x (slice_index params 1) width (row_value prim.Bits params)
    bits_shifts h F = ap (λ w. (location_value F x).bits / 2 ^ slice_index params 1 % 2 ^ w) (width_of prim.Bits F h)

    pub head_shifts : Row prim.Head → Shifts x (x.width - slice_index params 0) width (row_value prim.Head params)
    head_shifts h F = ap₂ (λ v w. (location_value F x).bits / 2 ^ (v - slice_index params 0) % 2 ^ w) (width_at F x) (width_of prim.Head F h)

    pub shr_shifts : Row prim.Shr → x.kind ≡ Unsigned → Shifts x (slice_index params 0) width (row_value prim.Shr params)
    shr_shifts h e F = ap₂ (λ n w. bits_of w (floor_div n (2 ^ slice_index params 0))) (plain (location_value F x) e) (width_of prim.Shr F h)

    pub shr_four_shifts : Row prim.ShrFour → x.kind ≡ Unsigned → Shifts x (slice_index params 0) width (row_value prim.ShrFour params)
    shr_four_shifts h e F = ap₂ (λ n w. bits_of w (floor_div n (2 ^ slice_index params 0))) (plain (location_value F x) e) (width_of prim.ShrFour F h)

    pub shr_signed : Row prim.Shr → x.kind ≡ Signed → 0 < x.width → Shifts x (min (slice_index params 0) (x.width - 1)) width (row_value prim.Shr params)
    shr_signed h e some F =
        let v = location_value F x in
        let n = slice_index params 0 in
        let within : v.bits < 2 ^ v.width = v.within in
        let same = width_at F x in
        let wide = width_of prim.Shr F h in
        let narrow : v.width ≤ 64 = few_at F x few in
        let least : v.width - n ≤ 64 = omega (arith, narrow) in
        let count : width ≡ max (v.width - n) 1 = sym wide ∙ cut_width (v.width - n) least in
        ap₂ (λ k w. bits_of w (floor_div (integer k v.width v.bits) (2 ^ n))) e wide
        ∙ (shifted_signed v.width n v.bits width (omega (arith, some, same)) within count ∙ ap (λ w. v.bits / 2 ^ min n (w - 1) % 2 ^ width) same)
      where
        cut_width : (m : ℕ) → m ≤ 64 → min (max m 1) 128 ≡ max m 1
        cut_width m h = omega (arith, h)

    -- an SInt keeps a bit in either version
    pub shr_four_signed : Row prim.ShrFour → x.kind ≡ Signed → 0 < x.width → Shifts x (min (slice_index params 0) (x.width - 1)) width (row_value prim.ShrFour params)
    shr_four_signed h e some F =
        let v = location_value F x in
        let n = slice_index params 0 in
        let within : v.bits < 2 ^ v.width = v.within in
        let same = width_at F x in
        let wide = width_of prim.ShrFour F h in
        let narrow : v.width ≤ 64 = few_at F x few in
        let least : v.width - n ≤ 64 = omega (arith, narrow) in
        let count : width ≡ max (v.width - n) 1
        = sym wide ∙ (ap (λ k. min (width_on_one prim.ShrFour k v.width n (slice_index params 1)) 128) e ∙ cut_width (v.width - n) least) in
        ap₂ (λ k w. bits_of w (floor_div (integer k v.width v.bits) (2 ^ n))) e wide
        ∙ (shifted_signed v.width n v.bits width (omega (arith, some, same)) within count ∙ ap (λ w. v.bits / 2 ^ min n (w - 1) % 2 ^ width) same)
      where
        cut_width : (m : ℕ) → m ≤ 64 → min (max m 1) 128 ≡ max m 1
        cut_width m h = omega (arith, h)

    -- tests of all bits
    pub andr_operates : (mask : ℕ) → mask ≡ 2 ^ x.width - 1 → Operates (working op.IsMask 0 x.low 0 0 mask) (x ∷ []) (row_value prim.Andr params)
    andr_operates mask m = record {
      computes = λ d a. one_computes op.IsMask 0 mask x.low d refl (λ ports wides i. refl) (omega arith) (low_written d a);
      gives = λ words inputs F cut.
          let v = location_value F x in
          ap₂ (λ n k. if n == k then 1 else 0) (low_at F cut) (m ∙ ap (λ w. 2 ^ w - 1) (sym (width_at F x))) ∙ by_test (v.bits == 2 ^ v.width - 1);
    }

    pub orr_follow : Follow (working op.IsMask 0 x.low 0 0 0) (working op.Not 0 x.low 0 0 1) (x ∷ []) (row_value prim.Orr params)
    orr_follow = record {
      computes = λ d a. one_computes op.IsMask 0 0 x.low d refl (λ ports wides i. refl) (omega arith) (low_written d a);
      then_computes = λ d k h. one_computes op.Not 0 1 k d refl (λ ports wides i. refl) (omega arith) h;
      gives = λ words inputs F k cut first.
          let v = location_value F x in
          ap (λ n. bit_and (2 ^ 64 - 1 - n) 1) (first ∙ ap (λ n. if n == 0 then 1 else 0) (low_at F cut)) ∙ (turned_test (v.bits == 0) ∙ by_test (not (v.bits == 0)));
    }

    pub xorr_operates : Operates (working op.Parity 0 x.low 0 0 0) (x ∷ []) (row_value prim.Xorr params)
    xorr_operates = record {
      computes = λ d a. one_computes op.Parity 0 0 x.low d refl (λ ports wides i. refl) (omega arith) (low_written d a);
      gives = λ words inputs F cut. ap (λ n. count_ones n % 2) (low_at F cut) ∙ twice_two (count_ones (location_value F x).bits);
    }
      where
        twice_two : (n : ℕ) → n % 2 ≡ n % 2 % 2 ^ 1
        twice_two n = omega arith

    -- bits that are moved up
    pub shl_operates : (shift mask : ℕ) → Row prim.Shl → x.kind ≡ Unsigned → shift ≡ slice_index params 0 → shift < 64 → width ≤ 64 → mask ≡ 2 ^ width - 1
        → Operates (working op.Left shift x.low 0 0 mask) (x ∷ []) (row_value prim.Shl params)
    shl_operates shift mask h kind is lt le m = record {
      computes = λ d a. one_computes op.Left shift mask x.low d refl (λ ports wides i. refl) lt (low_written d a);
      gives = λ words inputs F cut.
          let v = location_value F x in
          masked ((slice_index F x.low * 2 ^ shift) % 2 ^ 64) width mask m
          ∙ (ap (λ n. (n * 2 ^ shift) % 2 ^ 64 % 2 ^ width) (low_at F cut)
          ∙ (raised width v.bits shift v (plain_word v kind (few_at F x few)) le ∙ ap₂ (λ n w. bits_of w (integer_of v *ℤ pos (2 ^ n))) is (sym (width_of prim.Shl F h))));
    }

    pub shl_follow : (half shift mask : ℕ) → Row prim.Shl → x.kind ≡ Signed → 2 * half ≡ 2 ^ x.width → shift ≡ slice_index params 0 → shift < 64 → width ≤ 64 → mask ≡ 2 ^ width - 1
        → Follow (working op.Extend 0 x.low 0 0 half) (working op.Left shift x.low 0 0 mask) (x ∷ []) (row_value prim.Shl params)
    shl_follow half shift mask h kind double is lt le m = record {
      computes = λ d a. one_computes op.Extend 0 half x.low d refl (λ ports wides i. refl) (omega arith) (low_written d a);
      then_computes = λ d k e. one_computes op.Left shift mask k d refl (λ ports wides i. refl) lt e;
      gives = λ words inputs F k cut first.
          let v = location_value F x in
          let word = signed_word v half kind (double ∙ ap (λ n. 2 ^ n) (sym (width_at F x))) (few_at F x few) in
          masked ((slice_index F k * 2 ^ shift) % 2 ^ 64) width mask m
          ∙ (ap (λ n. (n * 2 ^ shift) % 2 ^ 64 % 2 ^ width) (first ∙ ap (λ n. extension n half) (low_at F cut))
          ∙ (raised width (extension v.bits half) shift v word le ∙ ap₂ (λ n w. bits_of w (integer_of v *ℤ pos (2 ^ n))) is (sym (width_of prim.Shl F h))));
    }
