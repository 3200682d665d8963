-- Operations of the table on the words of values with signs.
use Rattle.std.proofs.Common.{◌≡◌, ◌==◌, ℕ, zero, suc, ◌*◌, ◌%◌, ◌^◌, ◌≤◌, Bool, true, false, not, List, [], ◌∷◌, if◌then◌else◌, ℤ, int_lt, int_le, refl, sym, subst, ap, ap₂, ◌∙◌, arith, pow_mono}
use Rattle.std.specs.Ordering.{int_eq}
use Rattle.std.proofs.lemmas.Int.{ints}
use Rattle.std.proofs.lemmas.Grind.{common_steps}
use Rattle.bit_words.specs.declared.value.Kind.TheVariants.{Signed, Unsigned}
use Rattle.bit_words.specs.declared.value.Value.{Value}
use Rattle.bit_words.specs.Values.{integer, integer_of, bits_of, InRange}
use Rattle.bit_words.proofs.Congruence.{fit_same, integer_in_range}
use Rattle.prim_ops.specs.declared.operation.PrimOp.TheVariants as op
use Rattle.prim_ops.specs.Results.{one_if, floor_div}
use Rattle.prim_ops.proofs.Residues.{word_low}
use Rattle.prim_ops.specs.Values.{operation}
use Rattle.flat_code.specs.Meaning.{with_sign}
use Rattle.code_emit.specs.Ways.{turned_if}
use Rattle.code_emit.proofs.WordLaws.{by_test, turned_test, plain_word, raised}

-- An integer with a sign of at most 64 bits is what its word means.

wider : (v : ℕ) (n : ℤ) → v ≤ 64 → InRange Signed v n → InRange Signed 64 n
wider zero n h r = (omega (arith, ints), omega (arith, ints))
wider (suc w) n h r = let le : w ≤ 63 = omega (arith, h) in let most : 2 ^ w ≤ 2 ^ 63 = pow_mono le in (omega (arith, ints, r.0, most), omega (arith, ints, r.1, most))

pub word_back : (x : Value) → x.kind ≡ Signed → x.width ≤ 64 → integer Signed 64 (bits_of 64 (integer_of x)) ≡ integer_of x
word_back x e h = fit_same Signed 64 (integer_of x) (wider x.width (integer_of x) h (subst (λ k. InRange k x.width (integer_of x)) e (integer_in_range x.kind x.width x.bits x.within)))

same_tests : (p q : Bool) → (p ≡ true → q ≡ true) → (q ≡ true → p ≡ true) → p ≡ q
same_tests true q f g = sym (f refl)
same_tests false true f g = g refl
same_tests false false f g = refl

number_same : (a b : ℕ) → (a == b) ≡ true → a ≡ b
number_same a b e = grind (arith, common_steps)

same_number : (a b : ℕ) → a ≡ b → (a == b) ≡ true
same_number a b e = grind (arith, common_steps)

integer_same : (n m : ℤ) → int_eq n m ≡ true → n ≡ m
integer_same n m e = grind (arith, common_steps)

same_integer : (n m : ℤ) → n ≡ m → int_eq n m ≡ true
same_integer n m e = grind (arith, common_steps)

equal_words : (x y : Value) → x.kind ≡ Signed → y.kind ≡ Signed → x.width ≤ 64 → y.width ≤ 64 → (bits_of 64 (integer_of x) == bits_of 64 (integer_of y)) ≡ int_eq (integer_of x) (integer_of y)
equal_words x y k l v w = same_tests _ _
    (λ e. same_integer (integer_of x) (integer_of y) (sym (word_back x k v) ∙ (ap (integer Signed 64) (number_same _ _ e) ∙ word_back y l w)))
    (λ e. same_number _ _ (ap (bits_of 64) (integer_same (integer_of x) (integer_of y) e)))

pub equal_signed : (params : List ℕ) (x y : Value) → x.kind ≡ Signed → y.kind ≡ Signed → x.width ≤ 64 → y.width ≤ 64
    → (if bits_of 64 (integer_of x) == bits_of 64 (integer_of y) then 1 else 0) ≡ (operation op.Eq (x ∷ y ∷ []) params).bits
equal_signed params x y k l v w = by_test (bits_of 64 (integer_of x) == bits_of 64 (integer_of y)) ∙ ap (λ t. bits_of 1 (one_if t)) (equal_words x y k l v w)

pub unequal_signed : (params : List ℕ) (x y : Value) → x.kind ≡ Signed → y.kind ≡ Signed → x.width ≤ 64 → y.width ≤ 64
    → turned_if true (if bits_of 64 (integer_of x) == bits_of 64 (integer_of y) then 1 else 0) ≡ (operation op.Neq (x ∷ y ∷ []) params).bits
unequal_signed params x y k l v w =
    turned_test (bits_of 64 (integer_of x) == bits_of 64 (integer_of y)) ∙ (by_test (not (bits_of 64 (integer_of x) == bits_of 64 (integer_of y))) ∙ ap (λ t. bits_of 1 (one_if (not t))) (equal_words x y k l v w))

-- one below the other
below_words : (x y : Value) → x.kind ≡ Signed → y.kind ≡ Signed → x.width ≤ 64 → y.width ≤ 64 → int_lt (with_sign (bits_of 64 (integer_of x))) (with_sign (bits_of 64 (integer_of y))) ≡ int_lt (integer_of x) (integer_of y)
below_words x y k l v w = ap₂ int_lt (word_back x k v) (word_back y l w)

pub below_signed : (params : List ℕ) (x y : Value) → x.kind ≡ Signed → y.kind ≡ Signed → x.width ≤ 64 → y.width ≤ 64
    → (if int_lt (with_sign (bits_of 64 (integer_of x))) (with_sign (bits_of 64 (integer_of y))) then 1 else 0) ≡ (operation op.Lt (x ∷ y ∷ []) params).bits
below_signed params x y k l v w = ap (λ t. if t then 1 else 0) (below_words x y k l v w) ∙ by_test (int_lt (integer_of x) (integer_of y))

at_most : (n m : ℤ) → not (int_lt m n) ≡ int_le n m
at_most n m = grind (arith, common_steps)

pub not_below_signed : (params : List ℕ) (x y : Value) → x.kind ≡ Signed → y.kind ≡ Signed → x.width ≤ 64 → y.width ≤ 64
    → turned_if true (if int_lt (with_sign (bits_of 64 (integer_of y))) (with_sign (bits_of 64 (integer_of x))) then 1 else 0) ≡ (operation op.Leq (x ∷ y ∷ []) params).bits
not_below_signed params x y k l v w =
    ap (λ t. turned_if true (if t then 1 else 0)) (below_words y x l k w v)
    ∙ (turned_test (int_lt (integer_of y) (integer_of x)) ∙ (by_test (not (int_lt (integer_of y) (integer_of x))) ∙ ap (λ t. bits_of 1 (one_if t)) (at_most (integer_of x) (integer_of y))))

-- bits that are moved down with the sign
pub dshr_signed : (params : List ℕ) (x y : Value) → x.kind ≡ Signed → y.kind ≡ Unsigned → x.width ≤ 64 → y.width ≤ 64 → (operation op.Dshr (x ∷ y ∷ []) params).width ≤ 64
    → bits_of 64 (floor_div (with_sign (bits_of 64 (integer_of x))) (2 ^ bits_of 64 (integer_of y))) % 2 ^ (operation op.Dshr (x ∷ y ∷ []) params).width ≡ (operation op.Dshr (x ∷ y ∷ []) params).bits
dshr_signed params x y k l v w narrow =
    let width = (operation op.Dshr (x ∷ y ∷ []) params).width in
    let by = plain_word y l w in
    ap₂ (λ n b. bits_of 64 (floor_div n (2 ^ b)) % 2 ^ width) (word_back x k v) (sym by.is) ∙ word_low width 64 (bits_of 64 (floor_div (integer_of x) (2 ^ y.bits))) (floor_div (integer_of x) (2 ^ y.bits)) narrow refl

pub dshl_signed : (params : List ℕ) (x y : Value) → y.kind ≡ Unsigned → y.width ≤ 64 → (operation op.Dshl (x ∷ y ∷ []) params).width ≤ 64
    → (bits_of 64 (integer_of x) * 2 ^ bits_of 64 (integer_of y)) % 2 ^ 64 % 2 ^ (operation op.Dshl (x ∷ y ∷ []) params).width ≡ (operation op.Dshl (x ∷ y ∷ []) params).bits
dshl_signed params x y l w narrow =
    let width = (operation op.Dshl (x ∷ y ∷ []) params).width in
    let by = plain_word y l w in
    ap (λ b. (bits_of 64 (integer_of x) * 2 ^ b) % 2 ^ 64 % 2 ^ width) (sym by.is) ∙ raised width (bits_of 64 (integer_of x)) y.bits x (record { is = refl }) narrow
