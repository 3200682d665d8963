-- Ways of two operands, and of a choice.
use Rattle.std.proofs.Common.{◌≡◌, ◌==◌, ℕ, ◌+◌, ◌-◌, ◌*◌, ◌/◌, ◌%◌, ◌^◌, ◌<◌, ◌≤◌, min, max, true, false, Bool, nat_lt, if◌then◌else◌, List, [], ◌∷◌, slice_index, Some, bit_and, bit_or, bit_xor, refl, sym, ap, ap₂, ◌∙◌, arith, All}
use Rattle.std.proofs.lemmas.List.Elements.{All-cons}
use Rattle.bit_words.specs.declared.value.Kind.{Kind}
use Rattle.bit_words.specs.declared.value.Value.{Value}
use Rattle.prim_ops.specs.declared.operation.PrimOp.{PrimOp}
use Rattle.prim_ops.specs.declared.operation.PrimOp.TheVariants as prim
use Rattle.prim_ops.specs.Values.{operation}
use Rattle.ground_net.specs.Grounds.{chosen}
use Rattle.ground_net.specs.Shapes.{shaped, shape_of_row}
use Rattle.flat_code.specs.declared.instr.Op.{Op}
use Rattle.flat_code.specs.declared.instr.Op.TheVariants as op
use Rattle.flat_code.specs.declared.instr.Instr.{Instr}
use Rattle.flat_code.specs.declared.instr.Location.{Location}
use Rattle.flat_code.specs.Meaning.{location_value, word_on, minus, over, left_over}
use Rattle.flat_code.specs.Fine.{location_shapes}
use Rattle.flat_code.proofs.Evaluating.{holds_unsigned}
use Rattle.code_draft.specs.declared.draft.Draft.{Draft}
use Rattle.code_draft.specs.Drafts.{Stands, computes, written_in}
use Rattle.code_draft.proofs.Growing.{two_known}
use Rattle.code_draft.proofs.Cuts.{masked}
use Rattle.code_emit.specs.Working.{working}
use Rattle.code_emit.specs.Ways.{Cut, Operates, Follow, IsPlain, row_value}
use Rattle.code_emit.proofs.WordLaws.{plain_word, add_law, sub_law, and_law, or_law, xor_law, less_law, greater_law, equal_law, unequal_law, at_most_law, at_least_law, cat_law, mul_law, div_law, rem_law, raised, dshr_law}
use Rattle.code_emit.proofs.There.{ReadsTwo, bits_at, width_at, few_at, result_width, written_low, first_there, second_there, one_computes, two_computes}

module _ (x y : Location) (a : IsPlain x) (b : IsPlain y) (params : List ℕ) where
  first_at : (F : List ℕ) → All (Cut F) (x ∷ y ∷ []) → slice_index F x.low ≡ (location_value F x).bits
  first_at F cut = sym (bits_at F x a.few (first_there (Cut F) x (y ∷ []) cut))

  second_at : (F : List ℕ) → All (Cut F) (x ∷ y ∷ []) → slice_index F y.low ≡ (location_value F y).bits
  second_at F cut = sym (bits_at F y b.few (second_there (Cut F) x y [] cut))

  few_x : (F : List ℕ) → (location_value F x).width ≤ 64
  few_x F = few_at F x a.few

  few_y : (F : List ℕ) → (location_value F y).width ≤ 64
  few_y F = few_at F y b.few

  most : (v w : ℕ) → v ≤ 64 → w ≤ 64 → max v w ≤ 64
  most v w h k = omega (arith, h, k)

  module _ (kind : Kind) (width : ℕ) (few : width ≤ 64) where
    abbrev Row : PrimOp → Type 0
    Row p = shape_of_row p params (location_shapes (x ∷ y ∷ [])) ≡ Some (shaped kind width)

    width_of : (p : PrimOp) (F : List ℕ) → Row p → (operation p (location_value F x ∷ location_value F y ∷ []) params).width ≡ width
    width_of p F h = result_width p params (x ∷ y ∷ []) kind width F h

    few_of : (p : PrimOp) (F : List ℕ) → Row p → (operation p (location_value F x ∷ location_value F y ∷ []) params).width ≤ 64
    few_of p F h = let e = width_of p F h in omega (arith, e, few)

    -- a word of both words that is cut by the mask
    masked_operates : (p : PrimOp) (o : Op) (raw : ℕ → ℕ → ℕ) (mask : ℕ) → Row p → mask ≡ 2 ^ width - 1 → computes o ≡ true → ReadsTwo o
        → ((i : Instr) (words : List ℕ) (inputs : List Value) (m n c : ℕ) → word_on o i words inputs m n c ≡ bit_and (raw m n) i.mask)
        → ((F : List ℕ) → raw (location_value F x).bits (location_value F y).bits % 2 ^ (operation p (location_value F x ∷ location_value F y ∷ []) params).width ≡ (operation p (location_value F x ∷ location_value F y ∷ []) params).bits)
        → Operates (working o 0 x.low y.low 0 mask) (x ∷ y ∷ []) (row_value p params)
    masked_operates p o raw mask h m plain reads word law = record {
      computes = λ d s. two_computes o 0 mask x y d plain reads (omega arith) (first_there (Stands d) x (y ∷ []) s) (second_there (Stands d) x y [] s);
      gives = λ words inputs F cut.
          word (working o 0 x.low y.low 0 mask) words inputs (slice_index F x.low) (slice_index F y.low) (slice_index F 0)
          ∙ (masked (raw (slice_index F x.low) (slice_index F y.low)) width mask m
          ∙ (ap₂ (λ n k. raw n k % 2 ^ width) (first_at F cut) (second_at F cut) ∙ (ap (λ w. raw (location_value F x).bits (location_value F y).bits % 2 ^ w) (sym (width_of p F h)) ∙ law F)));
    }

    pub add_operates : (mask : ℕ) → Row prim.Add → mask ≡ 2 ^ width - 1 → Operates (working op.Add 0 x.low y.low 0 mask) (x ∷ y ∷ []) (row_value prim.Add params)
    add_operates mask h m =
        masked_operates prim.Add op.Add (λ n k. (n + k) % 2 ^ 64) mask h m refl (λ ports wides i. refl) (λ i words inputs n k c. refl) (λ F.
        add_law params (location_value F x).bits (location_value F y).bits (location_value F x) (location_value F y) (plain_word (location_value F x) a.kind (few_x F)) (plain_word (location_value F y) b.kind (few_y F)) (few_of prim.Add F h))

    pub sub_operates : (mask : ℕ) → Row prim.Sub → mask ≡ 2 ^ width - 1 → Operates (working op.Sub 0 x.low y.low 0 mask) (x ∷ y ∷ []) (row_value prim.Sub params)
    sub_operates mask h m =
        masked_operates prim.Sub op.Sub minus mask h m refl (λ ports wides i. refl) (λ i words inputs n k c. refl) (λ F.
        sub_law params (location_value F x).bits (location_value F y).bits (location_value F x) (location_value F y) (plain_word (location_value F x) a.kind (few_x F)) (plain_word (location_value F y) b.kind (few_y F)) (few_of prim.Sub F h))

    pub and_operates : (mask : ℕ) → Row prim.And → mask ≡ 2 ^ width - 1 → Operates (working op.And 0 x.low y.low 0 mask) (x ∷ y ∷ []) (row_value prim.And params)
    and_operates mask h m =
        masked_operates prim.And op.And bit_and mask h m refl (λ ports wides i. refl) (λ i words inputs n k c. refl) (λ F.
        and_law params (location_value F x).bits (location_value F y).bits (location_value F x) (location_value F y) (plain_word (location_value F x) a.kind (few_x F)) (plain_word (location_value F y) b.kind (few_y F)) (most (location_value F x).width (location_value F y).width (few_x F) (few_y F)))

    pub or_operates : (mask : ℕ) → Row prim.Or → mask ≡ 2 ^ width - 1 → Operates (working op.Or 0 x.low y.low 0 mask) (x ∷ y ∷ []) (row_value prim.Or params)
    or_operates mask h m =
        masked_operates prim.Or op.Or bit_or mask h m refl (λ ports wides i. refl) (λ i words inputs n k c. refl) (λ F.
        or_law params (location_value F x).bits (location_value F y).bits (location_value F x) (location_value F y) (plain_word (location_value F x) a.kind (few_x F)) (plain_word (location_value F y) b.kind (few_y F)) (most (location_value F x).width (location_value F y).width (few_x F) (few_y F)))

    pub xor_operates : (mask : ℕ) → Row prim.Xor → mask ≡ 2 ^ width - 1 → Operates (working op.Xor 0 x.low y.low 0 mask) (x ∷ y ∷ []) (row_value prim.Xor params)
    xor_operates mask h m =
        masked_operates prim.Xor op.Xor bit_xor mask h m refl (λ ports wides i. refl) (λ i words inputs n k c. refl) (λ F.
        xor_law params (location_value F x).bits (location_value F y).bits (location_value F x) (location_value F y) (plain_word (location_value F x) a.kind (few_x F)) (plain_word (location_value F y) b.kind (few_y F)) (most (location_value F x).width (location_value F y).width (few_x F) (few_y F)))

    pub mul_operates : (mask : ℕ) → Row prim.Mul → mask ≡ 2 ^ width - 1 → Operates (working op.Mul 0 x.low y.low 0 mask) (x ∷ y ∷ []) (row_value prim.Mul params)
    mul_operates mask h m =
        masked_operates prim.Mul op.Mul (λ n k. (n * k) % 2 ^ 64) mask h m refl (λ ports wides i. refl) (λ i words inputs n k c. refl) (λ F.
        mul_law params (location_value F x).bits (location_value F y).bits (location_value F x) (location_value F y) (plain_word (location_value F x) a.kind (few_x F)) (plain_word (location_value F y) b.kind (few_y F)) (few_of prim.Mul F h))

    pub div_operates : (mask : ℕ) → Row prim.Div → mask ≡ 2 ^ width - 1 → Operates (working op.Quotient 0 x.low y.low 0 mask) (x ∷ y ∷ []) (row_value prim.Div params)
    div_operates mask h m = masked_operates prim.Div op.Quotient over mask h m refl (λ ports wides i. refl) (λ i words inputs n k c. refl) (λ F. div_law params (location_value F x) (location_value F y) a.kind b.kind)

    pub rem_operates : (mask : ℕ) → Row prim.Rem → mask ≡ 2 ^ width - 1 → Operates (working op.Remainder 0 x.low y.low 0 mask) (x ∷ y ∷ []) (row_value prim.Rem params)
    rem_operates mask h m = masked_operates prim.Rem op.Remainder left_over mask h m refl (λ ports wides i. refl) (λ i words inputs n k c. refl) (λ F. rem_law params (location_value F x) (location_value F y) a.kind b.kind)

    pub dshl_operates : (mask : ℕ) → Row prim.Dshl → mask ≡ 2 ^ width - 1 → Operates (working op.LeftBy 0 x.low y.low 0 mask) (x ∷ y ∷ []) (row_value prim.Dshl params)
    dshl_operates mask h m =
        masked_operates prim.Dshl op.LeftBy (λ n k. (n * 2 ^ k) % 2 ^ 64) mask h m refl (λ ports wides i. refl) (λ i words inputs n k c. refl) (λ F.
        raised (operation prim.Dshl (location_value F x ∷ location_value F y ∷ []) params).width (location_value F x).bits (location_value F y).bits (location_value F x) (plain_word (location_value F x) a.kind (few_x F)) (few_of prim.Dshl F h))

    pub dshr_operates : (mask : ℕ) → Row prim.Dshr → mask ≡ 2 ^ width - 1 → Operates (working op.RightBy 0 x.low y.low 0 mask) (x ∷ y ∷ []) (row_value prim.Dshr params)
    dshr_operates mask h m =
        masked_operates prim.Dshr op.RightBy (λ n k. n / 2 ^ k) mask h m refl (λ ports wides i. refl) (λ i words inputs n k c. refl) (λ F. dshr_law params (location_value F x) (location_value F y) a.kind)

  -- a test of both words
  pub equal_operates : Operates (working op.Equal 0 x.low y.low 0 1) (x ∷ y ∷ []) (row_value prim.Eq params)
  equal_operates = record {
    computes = λ d s. two_computes op.Equal 0 1 x y d refl (λ ports wides i. refl) (omega arith) (first_there (Stands d) x (y ∷ []) s) (second_there (Stands d) x y [] s);
    gives = λ words inputs F cut. ap₂ (λ n k. if n == k then 1 else 0) (first_at F cut) (second_at F cut) ∙ equal_law params (location_value F x) (location_value F y) a.kind b.kind;
  }

  pub less_operates : Operates (working op.Less 0 x.low y.low 0 1) (x ∷ y ∷ []) (row_value prim.Lt params)
  less_operates = record {
    computes = λ d s. two_computes op.Less 0 1 x y d refl (λ ports wides i. refl) (omega arith) (first_there (Stands d) x (y ∷ []) s) (second_there (Stands d) x y [] s);
    gives = λ words inputs F cut. ap₂ (λ n k. if nat_lt n k then 1 else 0) (first_at F cut) (second_at F cut) ∙ less_law params (location_value F x) (location_value F y) a.kind b.kind;
  }

  pub greater_operates : Operates (working op.Less 0 y.low x.low 0 1) (x ∷ y ∷ []) (row_value prim.Gt params)
  greater_operates = record {
    computes = λ d s. two_computes op.Less 0 1 y x d refl (λ ports wides i. refl) (omega arith) (second_there (Stands d) x y [] s) (first_there (Stands d) x (y ∷ []) s);
    gives = λ words inputs F cut. ap₂ (λ n k. if nat_lt k n then 1 else 0) (first_at F cut) (second_at F cut) ∙ greater_law params (location_value F x) (location_value F y) a.kind b.kind;
  }

  -- a test that is turned round
  pub unequal_follow : Follow (working op.Equal 0 x.low y.low 0 1) (working op.Not 0 x.low 0 0 1) (x ∷ y ∷ []) (row_value prim.Neq params)
  unequal_follow = record {
    computes = λ d s. two_computes op.Equal 0 1 x y d refl (λ ports wides i. refl) (omega arith) (first_there (Stands d) x (y ∷ []) s) (second_there (Stands d) x y [] s);
    then_computes = λ d k h. one_computes op.Not 0 1 k d refl (λ ports wides i. refl) (omega arith) h;
    gives = λ words inputs F k cut first.
        ap (λ n. bit_and (2 ^ 64 - 1 - n) 1) (first ∙ ap₂ (λ n k. if n == k then 1 else 0) (first_at F cut) (second_at F cut)) ∙ unequal_law params (location_value F x) (location_value F y) a.kind b.kind;
  }

  pub at_most_follow : Follow (working op.Less 0 y.low x.low 0 1) (working op.Not 0 x.low 0 0 1) (x ∷ y ∷ []) (row_value prim.Leq params)
  at_most_follow = record {
    computes = λ d s. two_computes op.Less 0 1 y x d refl (λ ports wides i. refl) (omega arith) (second_there (Stands d) x y [] s) (first_there (Stands d) x (y ∷ []) s);
    then_computes = λ d k h. one_computes op.Not 0 1 k d refl (λ ports wides i. refl) (omega arith) h;
    gives = λ words inputs F k cut first.
        ap (λ n. bit_and (2 ^ 64 - 1 - n) 1) (first ∙ ap₂ (λ n k. if nat_lt k n then 1 else 0) (first_at F cut) (second_at F cut)) ∙ at_most_law params (location_value F x) (location_value F y) a.kind b.kind;
  }

  pub at_least_follow : Follow (working op.Less 0 x.low y.low 0 1) (working op.Not 0 x.low 0 0 1) (x ∷ y ∷ []) (row_value prim.Geq params)
  at_least_follow = record {
    computes = λ d s. two_computes op.Less 0 1 x y d refl (λ ports wides i. refl) (omega arith) (first_there (Stands d) x (y ∷ []) s) (second_there (Stands d) x y [] s);
    then_computes = λ d k h. one_computes op.Not 0 1 k d refl (λ ports wides i. refl) (omega arith) h;
    gives = λ words inputs F k cut first.
        ap (λ n. bit_and (2 ^ 64 - 1 - n) 1) (first ∙ ap₂ (λ n k. if nat_lt n k then 1 else 0) (first_at F cut) (second_at F cut)) ∙ at_least_law params (location_value F x) (location_value F y) a.kind b.kind;
  }

-- One number above another
module _ (x y : Location) (a : x.width ≤ 64) (b : y.width ≤ 64) (params : List ℕ) where
  pub cat_operates : (kind : Kind) (width : ℕ) → width ≤ 64 → y.width < 64 → shape_of_row prim.Cat params (location_shapes (x ∷ y ∷ [])) ≡ Some (shaped kind width)
      → Operates (working op.Join y.width x.low y.low 0 0) (x ∷ y ∷ []) (row_value prim.Cat params)
  cat_operates kind width few lt h = record {
    computes = λ d s. two_computes op.Join y.width 0 x y d refl (λ ports wides i. refl) lt (first_there (Stands d) x (y ∷ []) s) (second_there (Stands d) x y [] s);
    gives = λ words inputs F cut.
        let e = result_width prim.Cat params (x ∷ y ∷ []) kind width F h in
        let v = width_at F x in
        let w = width_at F y in
        ap₂ (λ n k. bit_or ((n * 2 ^ y.width) % 2 ^ 64) k) (sym (bits_at F x a (first_there (Cut F) x (y ∷ []) cut))) (sym (bits_at F y b (second_there (Cut F) x y [] cut)))
        ∙ (ap (λ t. bit_or (((location_value F x).bits * 2 ^ t) % 2 ^ 64) (location_value F y).bits) (sym w) ∙ cat_law params (location_value F x) (location_value F y) (sum_few (location_value F x).width (location_value F y).width width e few));
  }
    where
      sum_few : (m n k : ℕ) → min (m + n) 128 ≡ k → k ≤ 64 → m + n ≤ 64
      sum_few m n k e le = omega (arith, e, le)

-- A choice of two values
module _ (c x y : Location) (plain : IsPlain c) (fx : x.width ≤ 64) (fy : y.width ≤ 64) where
  pub choice_operates : Operates (working op.Mux 0 c.low x.low y.low 0) (c ∷ x ∷ y ∷ []) chosen
  choice_operates = record {
    computes = λ d s. record {
      plain = refl;
      known = three_known d (first_there (Stands d) c (x ∷ y ∷ []) s) (second_there (Stands d) c x (y ∷ []) s) (third_there (Stands d) s);
      shift = omega arith;
    };
    gives = λ words inputs F cut.
        ap (λ n. if n == 1 then slice_index F x.low else slice_index F y.low) (sym (bits_at F c plain.few (first_there (Cut F) c (x ∷ y ∷ []) cut)))
        ∙ (ap (λ b. if b then slice_index F x.low else slice_index F y.low) (holds_unsigned c.kind (location_value F c).width (location_value F c).bits plain.kind)
        ∙ by_test _ (slice_index F x.low) (slice_index F y.low) (location_value F x) (location_value F y) (sym (bits_at F x fx (second_there (Cut F) c x (y ∷ []) cut))) (sym (bits_at F y fy (third_there (Cut F) cut))));
  }
    where
      third_there : (P : Location → Type 0) → All P (c ∷ x ∷ y ∷ []) → P y
      third_there P a = a 2 y (omega arith)

      three_known : (d : Draft) → Stands d c → Stands d x → Stands d y → All (λ k. written_in d k ≡ true) (c.low ∷ x.low ∷ y.low ∷ [])
      three_known d f g h = All-cons (λ k. written_in d k ≡ true) c.low (x.low ∷ y.low ∷ []) (written_low d c f) (two_known (written_in d) x.low y.low (written_low d x g) (written_low d y h))

      by_test : (b : Bool) (m n : ℕ) (u v : Value) → m ≡ u.bits → n ≡ v.bits → (if b then m else n) ≡ (if b then u else v).bits
      by_test true m n u v e f = e
      by_test false m n u v e f = f
