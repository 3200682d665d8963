-- Operations of the table on single words. The word of a value is its integer's lowest 64 bits.
use Rattle.std.proofs.Common.{◌≡◌, ◌==◌, ℕ, zero, suc, ◌+◌, ◌-◌, ◌*◌, ◌/◌, ◌%◌, ◌^◌, ◌<◌, ◌≤◌, min, max, Bool, true, false, not, List, [], ◌∷◌, nat_lt, if◌then◌else◌, pos, negsuc, ◌*ℤ◌, bit_and, bit_or, bit_xor, int_lt, int_le, refl, sym, subst, ap, ap₂, ◌∙◌, arith, pow_mono, pow-add}
use Rattle.std.specs.Ordering.{int_eq}
use Rattle.std.proofs.lemmas.Int.{ints}
use Rattle.std.proofs.lemmas.Grind.{common_steps}
use Rattle.std.proofs.lemmas.Bool.{ltb-true, ltb-false}
use Rattle.std.proofs.lemmas.Nat.{pow_pos, shl_below, or_shifted, or_lt}
use Rattle.std.proofs.Math.Nat.{mod-eq_of_lt}
use Rattle.bit_words.specs.declared.value.Kind.TheVariants.{Unsigned, Signed}
use Rattle.bit_words.specs.declared.value.Value.{Value}
use Rattle.bit_words.specs.Values.{integer, integer_of, bits_of}
use Rattle.bit_words.proofs.Congruence.{Level}
use Rattle.prim_ops.specs.declared.operation.PrimOp.TheVariants as op
use Rattle.prim_ops.specs.Results.{one_if, quotient, remainder, floor_div}
use Rattle.prim_ops.proofs.Residues.{sum_low, difference_low, product_low, raised_low, shifted_low, same_low}
use Rattle.prim_ops.proofs.Moves.{and_low, or_low, xor_low}
use Rattle.prim_ops.specs.Values.{operation}
use Rattle.flat_code.specs.Meaning.{minus, extension, over, left_over}

-- a is the word of x
pub record HasWord (a : ℕ) (x : Value) : Type 0 where
  pub is : a ≡ bits_of 64 (integer_of x)

pub plain : (x : Value) → x.kind ≡ Unsigned → integer_of x ≡ pos x.bits
plain x e = ap (λ k. integer k x.width x.bits) e

pub small : (x : Value) → x.width ≤ 64 → x.bits < 2 ^ 64
small x h = let most : 2 ^ x.width ≤ 2 ^ 64 = pow_mono h in let w = x.within in omega (arith, w, most)

-- without a sign its bits are the word
pub plain_word : (x : Value) → x.kind ≡ Unsigned → x.width ≤ 64 → HasWord x.bits x
plain_word x e h = record { is = sym (mod-eq_of_lt (small x h)) ∙ ap (bits_of 64) (sym (plain x e)) }

pub add_law : (params : List ℕ) (a b : ℕ) (x y : Value) → HasWord a x → HasWord b y → (operation op.Add (x ∷ y ∷ []) params).width ≤ 64
    → (a + b) % 2 ^ 64 % 2 ^ (operation op.Add (x ∷ y ∷ []) params).width ≡ (operation op.Add (x ∷ y ∷ []) params).bits
add_law params a b x y v w narrow = sum_low _ 64 a b (integer_of x) (integer_of y) narrow v.is w.is

pub sub_law : (params : List ℕ) (a b : ℕ) (x y : Value) → HasWord a x → HasWord b y → (operation op.Sub (x ∷ y ∷ []) params).width ≤ 64
    → minus a b % 2 ^ (operation op.Sub (x ∷ y ∷ []) params).width ≡ (operation op.Sub (x ∷ y ∷ []) params).bits
sub_law params a b x y v w narrow = difference_low _ 64 a b (integer_of x) (integer_of y) narrow v.is w.is

pub and_law : (params : List ℕ) (a b : ℕ) (x y : Value) → HasWord a x → HasWord b y → max x.width y.width ≤ 64
    → bit_and a b % 2 ^ (operation op.And (x ∷ y ∷ []) params).width ≡ (operation op.And (x ∷ y ∷ []) params).bits
and_law params a b x y v w narrow = and_low _ (max x.width y.width) 64 a b (integer_of x) (integer_of y) (omega arith) narrow v.is w.is

pub or_law : (params : List ℕ) (a b : ℕ) (x y : Value) → HasWord a x → HasWord b y → max x.width y.width ≤ 64
    → bit_or a b % 2 ^ (operation op.Or (x ∷ y ∷ []) params).width ≡ (operation op.Or (x ∷ y ∷ []) params).bits
or_law params a b x y v w narrow = or_low _ (max x.width y.width) 64 a b (integer_of x) (integer_of y) (omega arith) narrow v.is w.is

pub xor_law : (params : List ℕ) (a b : ℕ) (x y : Value) → HasWord a x → HasWord b y → max x.width y.width ≤ 64
    → bit_xor a b % 2 ^ (operation op.Xor (x ∷ y ∷ []) params).width ≡ (operation op.Xor (x ∷ y ∷ []) params).bits
xor_law params a b x y v w narrow = xor_low _ (max x.width y.width) 64 a b (integer_of x) (integer_of y) (omega arith) narrow v.is w.is

less_one : (k q : ℕ) → 0 < k → (k - 1) * q + q ≡ k * q
less_one zero q h = absurd (omega arith)
less_one (suc j) q h = let e : suc j - 1 ≡ j = omega arith in ap (λ n. n * q + q) e ∙ (let f : j * q + q ≡ suc j * q = omega arith in f)

turned : (w b : ℕ) → w ≤ 64 → b < 2 ^ w → Level w (pos (2 ^ 64 - 1 - b)) (pos (2 ^ w - 1 - b))
turned w b h below =
    let exponent : 64 - w + w ≡ 64 = omega arith in
    let whole : 2 ^ 64 ≡ 2 ^ (64 - w) * 2 ^ w = sym (ap (λ n. 2 ^ n) exponent) ∙ pow-add 2 (64 - w) w in
    let apart = less_one (2 ^ (64 - w)) (2 ^ w) (pow_pos (64 - w)) in
    record { left = 0; right = 2 ^ (64 - w) - 1; same = omega (arith, ints) }

-- the other bits
pub not_law : (params : List ℕ) (x : Value) → x.width ≤ 64 → (2 ^ 64 - 1 - x.bits) % 2 ^ (operation op.Not (x ∷ []) params).width ≡ (operation op.Not (x ∷ []) params).bits
not_law params x h =
    let same : min x.width 128 ≡ x.width = omega arith in
    ap (λ n. (2 ^ 64 - 1 - x.bits) % 2 ^ n) same ∙ same_low x.width _ _ (turned x.width x.bits h x.within) ∙ ap (λ n. (2 ^ x.width - 1 - x.bits) % 2 ^ n) (sym same)

pub by_test : (b : Bool) → (if b then 1 else 0) ≡ bits_of 1 (one_if b)
by_test true = refl
by_test false = refl

pub less_law : (params : List ℕ) (x y : Value) → x.kind ≡ Unsigned → y.kind ≡ Unsigned → (if nat_lt x.bits y.bits then 1 else 0) ≡ (operation op.Lt (x ∷ y ∷ []) params).bits
less_law params x y k l = by_test (nat_lt x.bits y.bits) ∙ ap₂ (λ n m. bits_of 1 (one_if (int_lt n m))) (sym (plain x k)) (sym (plain y l))

same_test : (m n : ℕ) → (m == n) ≡ int_eq (pos m) (pos n)
same_test m n = grind (arith, common_steps)

pub equal_law : (params : List ℕ) (x y : Value) → x.kind ≡ Unsigned → y.kind ≡ Unsigned → (if x.bits == y.bits then 1 else 0) ≡ (operation op.Eq (x ∷ y ∷ []) params).bits
equal_law params x y k l = by_test (x.bits == y.bits) ∙ ap (λ t. bits_of 1 (one_if t)) (same_test x.bits y.bits) ∙ ap₂ (λ n m. bits_of 1 (one_if (int_eq n m))) (sym (plain x k)) (sym (plain y l))

-- a test turned round
pub turned_test : (b : Bool) → bit_and (2 ^ 64 - 1 - (if b then 1 else 0)) 1 ≡ (if not b then 1 else 0)
turned_test true = refl
turned_test false = refl

pub unequal_law : (params : List ℕ) (x y : Value) → x.kind ≡ Unsigned → y.kind ≡ Unsigned → bit_and (2 ^ 64 - 1 - (if x.bits == y.bits then 1 else 0)) 1 ≡ (operation op.Neq (x ∷ y ∷ []) params).bits
unequal_law params x y k l =
    turned_test (x.bits == y.bits) ∙ (by_test (not (x.bits == y.bits)) ∙ (ap (λ t. bits_of 1 (one_if (not t))) (same_test x.bits y.bits) ∙ ap₂ (λ n m. bits_of 1 (one_if (not (int_eq n m)))) (sym (plain x k)) (sym (plain y l))))

at_most_test : (m n : ℕ) → not (nat_lt n m) ≡ int_le (pos m) (pos n)
at_most_test m n = grind (arith, common_steps)

at_most_bits : (x y : Value) → x.kind ≡ Unsigned → y.kind ≡ Unsigned → bit_and (2 ^ 64 - 1 - (if nat_lt y.bits x.bits then 1 else 0)) 1 ≡ bits_of 1 (one_if (int_le (integer_of x) (integer_of y)))
at_most_bits x y k l =
    turned_test (nat_lt y.bits x.bits) ∙ (by_test (not (nat_lt y.bits x.bits)) ∙ (ap (λ t. bits_of 1 (one_if t)) (at_most_test x.bits y.bits) ∙ ap₂ (λ n m. bits_of 1 (one_if (int_le n m))) (sym (plain x k)) (sym (plain y l))))

pub at_most_law : (params : List ℕ) (x y : Value) → x.kind ≡ Unsigned → y.kind ≡ Unsigned → bit_and (2 ^ 64 - 1 - (if nat_lt y.bits x.bits then 1 else 0)) 1 ≡ (operation op.Leq (x ∷ y ∷ []) params).bits
at_most_law params x y k l = at_most_bits x y k l

pub at_least_law : (params : List ℕ) (x y : Value) → x.kind ≡ Unsigned → y.kind ≡ Unsigned → bit_and (2 ^ 64 - 1 - (if nat_lt x.bits y.bits then 1 else 0)) 1 ≡ (operation op.Geq (x ∷ y ∷ []) params).bits
at_least_law params x y k l = at_most_bits y x l k

pub greater_law : (params : List ℕ) (x y : Value) → x.kind ≡ Unsigned → y.kind ≡ Unsigned → (if nat_lt y.bits x.bits then 1 else 0) ≡ (operation op.Gt (x ∷ y ∷ []) params).bits
greater_law params x y k l = less_law params y x l k

small_in : (x y : Value) → y.bits < 2 ^ (x.width + y.width)
small_in x y = let most : 2 ^ y.width ≤ 2 ^ (x.width + y.width) = pow_mono (omega arith) in let w = y.within in omega (arith, w, most)

-- one number above another
pub cat_law : (params : List ℕ) (x y : Value) → x.width + y.width ≤ 64 → bit_or ((x.bits * 2 ^ y.width) % 2 ^ 64) y.bits ≡ (operation op.Cat (x ∷ y ∷ []) params).bits
cat_law params x y h =
    let below : x.bits * 2 ^ y.width < 2 ^ (x.width + y.width) = shl_below x.bits x.width y.width x.within in
    let most : 2 ^ (x.width + y.width) ≤ 2 ^ 64 = pow_mono h in
    let is : (x.bits * 2 ^ y.width) % 2 ^ 64 ≡ x.bits * 2 ^ y.width = mod-eq_of_lt (omega (arith, below, most)) in
    let sum : bit_or (x.bits * 2 ^ y.width) y.bits ≡ x.bits * 2 ^ y.width + y.bits = or_shifted x.bits y.width y.bits y.within in
    let same : min (x.width + y.width) 128 ≡ x.width + y.width = omega arith in
    let within : x.bits * 2 ^ y.width + y.bits < 2 ^ (x.width + y.width) = subst (λ n. n < 2 ^ (x.width + y.width)) sum (or_lt (x.width + y.width) (x.bits * 2 ^ y.width) y.bits below (small_in x y)) in
    ap (λ n. bit_or n y.bits) is ∙ sum ∙ sym (mod-eq_of_lt within) ∙ ap (λ n. (x.bits * 2 ^ y.width + y.bits) % 2 ^ n) (sym same)

-- a value with a sign: the half is 2 ^ (width - 1)
mod_once : (n r : ℕ) → n ≡ r + 2 ^ 64 → r < 2 ^ 64 → n % 2 ^ 64 ≡ r
mod_once n r e h = omega arith

extended : (b c : ℕ) → c < 2 ^ 64 → b < 2 ^ 64 → c ≤ b → b < 2 * c → 2 * c ≤ 2 ^ 64 → minus (minus b c) c ≡ 2 ^ 64 - 1 - (2 * c - 1 - b) % 2 ^ 64
extended b c h below le less room =
    let first : minus b c ≡ b - c = mod_once (b + (2 ^ 64 - c)) (b - c) (omega arith) (omega arith) in
    let second : minus (b - c) c ≡ b - c + (2 ^ 64 - c) = mod-eq_of_lt (omega arith) in
    let third : (2 * c - 1 - b) % 2 ^ 64 ≡ 2 * c - 1 - b = mod-eq_of_lt (omega arith) in
    ap (λ n. minus n c) first ∙ second ∙ (let e : b - c + (2 ^ 64 - c) ≡ 2 ^ 64 - 1 - (2 * c - 1 - b) = omega arith in e) ∙ ap (λ n. 2 ^ 64 - 1 - n) (sym third)

by_sign : (s t : Bool) (b c p : ℕ) → s ≡ nat_lt b c → t ≡ nat_lt (2 * b) p → 2 * c ≡ p → p ≤ 2 ^ 64 → b < p → (if s then b else minus (minus b c) c) ≡ bits_of 64 (if t then pos b else negsuc (p - 1 - b))
by_sign true true b c p s t h room below = sym (mod-eq_of_lt (omega arith))
by_sign false false b c p s t h room below = let less : c ≤ b = ltb-false b c (sym s) in extended b c (omega arith) (omega arith) less (omega arith) (omega arith) ∙ ap (λ n. 2 ^ 64 - 1 - (n - 1 - b) % 2 ^ 64) h
by_sign true false b c p s t h room below = let x : b < c = ltb-true b c (sym s) in let y : p ≤ 2 * b = ltb-false (2 * b) p (sym t) in absurd (omega arith)
by_sign false true b c p s t h room below = let x : c ≤ b = ltb-false b c (sym s) in let y : 2 * b < p = ltb-true (2 * b) p (sym t) in absurd (omega arith)

pub signed_word : (x : Value) (half : ℕ) → x.kind ≡ Signed → 2 * half ≡ 2 ^ x.width → x.width ≤ 64 → HasWord (extension x.bits half) x
signed_word x half e h narrow =
    let most : 2 ^ x.width ≤ 2 ^ 64 = pow_mono narrow in
    record { is = by_sign (nat_lt x.bits half) (nat_lt (2 * x.bits) (2 ^ x.width)) x.bits half (2 ^ x.width) refl refl h most x.within ∙ ap (λ k. bits_of 64 (integer k x.width x.bits)) (sym e) }

-- Products, quotients and moved bits

pub mul_law : (params : List ℕ) (a b : ℕ) (x y : Value) → HasWord a x → HasWord b y → (operation op.Mul (x ∷ y ∷ []) params).width ≤ 64
    → (a * b) % 2 ^ 64 % 2 ^ (operation op.Mul (x ∷ y ∷ []) params).width ≡ (operation op.Mul (x ∷ y ∷ []) params).bits
mul_law params a b x y v w narrow = product_low _ 64 a b (integer_of x) (integer_of y) narrow v.is w.is

over_by : (t : Bool) (a b w : ℕ) → (if t then 0 else a / b) % 2 ^ w ≡ bits_of w (if t then pos 0 else pos (a / b))
over_by true a b w = refl
over_by false a b w = refl

left_by : (t : Bool) (a b w : ℕ) → (if t then 0 else a % b) % 2 ^ w ≡ bits_of w (if t then pos 0 else pos (a % b))
left_by true a b w = refl
left_by false a b w = refl

pub div_law : (params : List ℕ) (x y : Value) → x.kind ≡ Unsigned → y.kind ≡ Unsigned → over x.bits y.bits % 2 ^ (operation op.Div (x ∷ y ∷ []) params).width ≡ (operation op.Div (x ∷ y ∷ []) params).bits
div_law params x y k l = let w = (operation op.Div (x ∷ y ∷ []) params).width in over_by (y.bits == 0) x.bits y.bits w ∙ ap₂ (λ n m. bits_of w (quotient n m)) (sym (plain x k)) (sym (plain y l))

pub rem_law : (params : List ℕ) (x y : Value) → x.kind ≡ Unsigned → y.kind ≡ Unsigned → left_over x.bits y.bits % 2 ^ (operation op.Rem (x ∷ y ∷ []) params).width ≡ (operation op.Rem (x ∷ y ∷ []) params).bits
rem_law params x y k l = let w = (operation op.Rem (x ∷ y ∷ []) params).width in left_by (y.bits == 0) x.bits y.bits w ∙ ap₂ (λ n m. bits_of w (remainder n m)) (sym (plain x k)) (sym (plain y l))

pub raised : (w a n : ℕ) (x : Value) → HasWord a x → w ≤ 64 → (a * 2 ^ n) % 2 ^ 64 % 2 ^ w ≡ bits_of w (integer_of x *ℤ pos (2 ^ n))
raised w a n x h narrow = raised_low w 64 a n narrow ∙ shifted_low w 64 a (2 ^ n) (integer_of x) narrow h.is

pub dshr_law : (params : List ℕ) (x y : Value) → x.kind ≡ Unsigned → x.bits / 2 ^ y.bits % 2 ^ (operation op.Dshr (x ∷ y ∷ []) params).width ≡ (operation op.Dshr (x ∷ y ∷ []) params).bits
dshr_law params x y k = ap (λ n. bits_of (operation op.Dshr (x ∷ y ∷ []) params).width (floor_div n (2 ^ y.bits))) (sym (plain x k))
