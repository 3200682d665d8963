-- Decimal and binary texts write their numbers.
use Rattle.std.proofs.Common.{◌≡◌, ℕ, zero, suc, ◌+◌, ◌*◌, ◌/◌, ◌%◌, ◌^◌, ◌<◌, ◌≤◌, List, [], ◌∷◌, length, length-append, refl, sym, ap, ◌∙◌, subst, arith}
use Rattle.std.specs.Prelude.{true, decimal}
use Rattle.std.specs.Char.{digit_value}
use Rattle.std.specs.Str.Parse.{AllDigits, digits_value, digits_value_after}
use Rattle.std.proofs.lemmas.Fmt.{decimal_is_IsNumeral, decimal_nonempty}
use Rattle.std.proofs.lemmas.Str.Parse.{digit_from_value}
use Rattle.std.proofs.lemmas.Int.Digits.{digits_push}
use Rattle.std.proofs.lemmas.Nat.{div-add-mod'}
use Rattle.std.proofs.Math.Nat.{pow-suc, pow-zero, mod-lt}
use Rattle.bit_words.specs.declared.number.Base.TheVariants.{Binary, Decimal}
use Rattle.bit_words.specs.Numbers.{value_of_digits, WritesDigits}
use Rattle.bit_words.proofs.Digits.{value_push}
use Rattle.vcd_write.specs.Texts.{binary}
use Rattle.vcd_write.specs.Reading.{is_plain}
use Rattle.vcd_write.proofs.Lines.{plain_cons}

pub digits_plain : (r : ℕ) (ds : List ℕ) → r ≤ 10 → AllDigits r ds → is_plain ds ≡ true
digits_plain r [] le h = refl
digits_plain r (d ∷ ds) le h = plain_cons d ds (λ e. let k = digit_from_value d (omega (arith, le, h.0)) in omega (arith, k, e)) (digits_plain r ds le h.1)

one_more : (n r d p v : ℕ) (q : ℕ) → q ≡ p * r → (n * r + d) * p + v ≡ n * q + (d * p + v)
one_more n r d p v q e = rw e (omega arith)

after_is : (n : ℕ) (ds : List ℕ) → digits_value_after 10 n ds ≡ n * 10 ^ length ds + value_of_digits Decimal ds
after_is n [] = let one : 10 ^ 0 ≡ 1 = pow-zero 10 in rw one (omega arith)
after_is n (d ∷ ds) = after_is (n * 10 + digit_value d) ds ∙ one_more n 10 (digit_value d) (10 ^ length ds) (value_of_digits Decimal ds) (10 ^ suc (length ds)) (pow-suc 10 (length ds))

pub decimal_writes : (n : ℕ) → n < 2 ^ 64 → WritesDigits Decimal (decimal n) n
decimal_writes n lt =
    let is = decimal_is_IsNumeral n lt in
    let same : digits_value 10 (decimal n) ≡ value_of_digits Decimal (decimal n) = after_is 0 (decimal n) ∙ omega arith in
    record { some = decimal_nonempty n lt; digits = is.0.1; value = sym is.1 ∙ same }

pub decimal_plain : (n : ℕ) → n < 2 ^ 64 → is_plain (decimal n) ≡ true
decimal_plain n lt = digits_plain 10 (decimal n) (omega arith) (decimal_writes n lt).digits

bit_value : (x : ℕ) → x < 2 → digit_value (48 + x) ≡ x
bit_value zero lt = refl
bit_value (suc zero) lt = refl
bit_value (suc (suc x)) lt = absurd (omega (arith, lt))

half_small : (n w : ℕ) → n < 2 ^ suc w → n / 2 < 2 ^ w
half_small n w lt =
    let power : 2 ^ suc w ≡ 2 ^ w * 2 = pow-suc 2 w in
    let whole : n / 2 * 2 + n % 2 ≡ n = div-add-mod' n 2 in
    omega (arith, power, whole, lt)

binary_length : (w n : ℕ) → length (binary w n) ≡ w
binary_length zero n = refl
binary_length (suc w) n = length-append (binary w (n / 2)) ((48 + n % 2) ∷ []) ∙ (ap (λ k. k + 1) (binary_length w (n / 2)) ∙ omega arith)

binary_digits : (w n : ℕ) → AllDigits 2 (binary w n)
binary_digits zero n = tt
binary_digits (suc w) n = digits_push 2 (binary w (n / 2)) (48 + n % 2) (binary_digits w (n / 2)) (subst (λ d. d < 2) (sym (bit_value (n % 2) (mod-lt n (omega arith)))) (mod-lt n (omega arith)))

binary_value : (w n : ℕ) → n < 2 ^ w → n ≡ value_of_digits Binary (binary w n)
binary_value zero n lt = let one : 2 ^ 0 ≡ 1 = pow-zero 2 in omega (arith, one, lt)
binary_value (suc w) n lt =
    let whole : n / 2 * 2 + n % 2 ≡ n = div-add-mod' n 2 in
    sym whole ∙ (ap (λ k. k * 2 + n % 2) (binary_value w (n / 2) (half_small n w lt))
    ∙ (ap (λ d. value_of_digits Binary (binary w (n / 2)) * 2 + d) (sym (bit_value (n % 2) (mod-lt n (omega arith)))) ∙ sym (value_push Binary (binary w (n / 2)) (48 + n % 2))))

pub binary_writes : (w n : ℕ) → 0 < w → n < 2 ^ w → WritesDigits Binary (binary w n) n
binary_writes w n some lt = record { some = omega (arith, binary_length w n, some); digits = binary_digits w n; value = binary_value w n lt }

pub binary_plain : (w n : ℕ) → is_plain (binary w n) ≡ true
binary_plain w n = digits_plain 2 (binary w n) (omega arith) (binary_digits w n)
