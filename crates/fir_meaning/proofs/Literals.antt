-- The width of a literal is the least that holds it.
use Rattle.std.proofs.Common.{◌≡◌, ℕ, zero, suc, ◌+◌, ◌^◌, ◌<◌, ◌≤◌, nat_le, true, false, ℤ, pos, negsuc, neg_ℤ, ◌≤ℤ◌, ◌<ℤ◌, sym, subst, arith, if◌then◌else◌, ⊎_elim, lt→ltb, ltb→lt, le→leb, leb→le}
use Rattle.std.proofs.lemmas.Grind.{common_steps}
use Rattle.bit_words.specs.declared.value.Kind.{Kind}
use Rattle.bit_words.specs.declared.value.Kind.TheVariants.{Unsigned, Signed}
use Rattle.bit_words.specs.Values.{InRange}
use Rattle.bit_words.specs.LeastWidths.{IsLeastWidth}
use Rattle.fir_types.specs.Bundles.{least_reaching}
use Rattle.fir_meaning.specs.Values.{least_width}
use Rattle.fir_meaning.proofs.Covering.{true_or_false}

le_of_test : (a b : ℕ) → nat_le a b ≡ true → a ≤ b
le_of_test a b e = grind (arith, common_steps)

gt_of_test : (a b : ℕ) → nat_le a b ≡ false → b < a
gt_of_test a b e = grind (arith, common_steps)

later : (from w : ℕ) → from ≤ w → (from ≡ w → ⊥) → suc from ≤ w
later from w a differ = grind (arith, common_steps)

-- what is reached, and that nothing less does
reached : (n from more : ℕ) → n ≤ 2 ^ (from + more) → n ≤ 2 ^ least_reaching n from more
unfolding least_reaching
reached n from zero h = let same : from + 0 ≡ from = omega arith in subst (λ k. n ≤ 2 ^ k) same h
reached n from (suc more) h = ⊎_elim
    (λ q. subst (λ b. n ≤ 2 ^ (if b then from else least_reaching n (suc from) more)) (sym q) (le_of_test n (2 ^ from) q))
    (λ q. subst (λ b. n ≤ 2 ^ (if b then from else least_reaching n (suc from) more)) (sym q)
    (let same : from + suc more ≡ suc from + more = omega arith in reached n (suc from) more (subst (λ k. n ≤ 2 ^ k) same h)))
    (true_or_false (nat_le n (2 ^ from)))

none_less : (n from more w : ℕ) → from ≤ w → n ≤ 2 ^ w → least_reaching n from more ≤ w
unfolding least_reaching
none_less n from zero w a h = a
none_less n from (suc more) w a h = ⊎_elim
    (λ q. subst (λ b. (if b then from else least_reaching n (suc from) more) ≤ w) (sym q) a)
    (λ q. subst (λ b. (if b then from else least_reaching n (suc from) more) ≤ w) (sym q)
    (none_less n (suc from) more w (later from w a (λ e. let bad : n ≤ 2 ^ from = subst (λ k. n ≤ 2 ^ k) (sym e) h in let over : 2 ^ from < n = gt_of_test n (2 ^ from) q in absurd (omega arith))) h))
    (true_or_false (nat_le n (2 ^ from)))

from_on : (n from more : ℕ) → from ≤ least_reaching n from more
unfolding least_reaching
from_on n from zero = omega arith
from_on n from (suc more) = ⊎_elim
    (λ q. subst (λ b. from ≤ (if b then from else least_reaching n (suc from) more)) (sym q) (omega arith))
    (λ q. subst (λ b. from ≤ (if b then from else least_reaching n (suc from) more)) (sym q) (let rest : suc from ≤ least_reaching n (suc from) more = from_on n (suc from) more in omega arith))
    (true_or_false (nat_le n (2 ^ from)))

-- integers

pos_below : (p n : ℕ) → suc n ≤ p → pos n <ℤ pos p
pos_below p n h = record { lt = lt→ltb n p h }

below_pos : (p n : ℕ) → pos n <ℤ pos p → suc n ≤ p
below_pos p n h = ltb→lt n p h.lt

pos_from_zero : (n : ℕ) → pos 0 ≤ℤ pos n
pos_from_zero n = record { le = le→leb 0 n (omega arith) }

pos_from_neg : (p n : ℕ) → neg_ℤ (pos p) ≤ℤ pos n
pos_from_neg zero n = record { le = le→leb 0 n (omega arith) }
pos_from_neg (suc p) n = record { le = tt }

neg_within : (p n : ℕ) → suc n ≤ p → neg_ℤ (pos p) ≤ℤ negsuc n
neg_within zero n h = absurd (omega arith)
neg_within (suc p) n h = record { le = le→leb n p (omega arith) }

within_neg : (p n : ℕ) → neg_ℤ (pos p) ≤ℤ negsuc n → suc n ≤ p
within_neg zero n h = absurd h.le
within_neg (suc p) n h = let below : n ≤ p = leb→le n p h.le in omega arith

neg_below : (p n : ℕ) → negsuc n <ℤ pos p
neg_below p n = record { lt = tt }

unsigned_in : (w n : ℕ) → 1 ≤ w → suc n ≤ 2 ^ w → InRange Unsigned w (pos n)
unsigned_in zero n a h = absurd (omega arith)
unsigned_in (suc w) n a h = (pos_from_zero n, pos_below (2 ^ suc w) n h)

unsigned_out : (w n : ℕ) → 0 < w → InRange Unsigned w (pos n) → suc n ≤ 2 ^ w
unsigned_out zero n a h = absurd (omega arith)
unsigned_out (suc w) n a h = below_pos (2 ^ suc w) n h.1

unsigned_neg : (w n : ℕ) → 0 < w → InRange Unsigned w (negsuc n) → ⊥
unsigned_neg zero n a h = absurd (omega arith)
unsigned_neg (suc w) n a h = absurd h.0.le

-- The least width of a number that 128 bits hold.
pub least_is_least : (kind : Kind) (n : ℤ) → InRange kind 128 n → IsLeastWidth kind n (least_width kind n)
least_is_least Unsigned (pos n) h =
    let small : suc n ≤ 2 ^ 128 = unsigned_out 128 n (omega arith) h in
    let from : 1 ≤ least_reaching (suc n) 1 127 = from_on (suc n) 1 127 in
    record {
      positive = from;
      holds = unsigned_in (least_reaching (suc n) 1 127) n from (reached (suc n) 1 127 small);
      least = λ other some h. none_less (suc n) 1 127 other some (unsigned_out other n some h);
    }
least_is_least Unsigned (negsuc n) h = absurd (unsigned_neg 128 n (omega arith) h)
least_is_least Signed (pos n) h =
    let small : suc n ≤ 2 ^ 127 = below_pos (2 ^ 127) n h.1 in
    record {
      positive = omega arith;
      holds = (pos_from_neg (2 ^ least_reaching (suc n) 0 127) n, pos_below (2 ^ least_reaching (suc n) 0 127) n (reached (suc n) 0 127 small));
      least = signed_least n;
    } where
      signed_least : (n other : ℕ) → 0 < other → InRange Signed other (pos n) → suc (least_reaching (suc n) 0 127) ≤ other
      signed_least n zero some h = absurd (omega arith)
      signed_least n (suc w) some h = let below : least_reaching (suc n) 0 127 ≤ w = none_less (suc n) 0 127 w (omega arith) (below_pos (2 ^ w) n h.1) in omega arith
least_is_least Signed (negsuc n) h =
    let small : suc n ≤ 2 ^ 127 = within_neg (2 ^ 127) n h.0 in
    record {
      positive = omega arith;
      holds = (neg_within (2 ^ least_reaching (suc n) 0 127) n (reached (suc n) 0 127 small), neg_below (2 ^ least_reaching (suc n) 0 127) n);
      least = negative_least n;
    } where
      negative_least : (n other : ℕ) → 0 < other → InRange Signed other (negsuc n) → suc (least_reaching (suc n) 0 127) ≤ other
      negative_least n zero some h = absurd (omega arith)
      negative_least n (suc w) some h = let below : least_reaching (suc n) 0 127 ≤ w = none_less (suc n) 0 127 w (omega arith) (within_neg (2 ^ w) n h.0) in omega arith
