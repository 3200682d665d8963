use Rattle.std.proofs.Common.{ℕ, ◌<◌, ◌≤◌, ◌*◌, ◌^◌, false, IsTrue, arith, pow_mono, ⊎_elim}
use Rattle.std.proofs.lemmas.Bool.{cases_lt, lt-ltb, false≢true}
use Rattle.std.proofs.lemmas.Int.{to_z_pos}
use Rattle.std.specs.Int.{w128}
use Rattle.bit_words.proofs.decimal.signed.Goals as goal

less : (a b : ℕ) → (a ≤ b → IsTrue false) → b < a
less a b h = ⊎_elim (λ l. l) (λ m. absurd (false≢true (h m))) (cases_lt b a)

half : (w bits : ℕ) → w ≤ 128 → 2 * bits < 2 ^ w → bits < 2 ^ 127
half w bits narrow below = let most : 2 ^ w ≤ 2 ^ 128 = pow_mono narrow in omega arith

pub overflow_cast-result-else-is_negative : goal.overflow_cast-result-else-is_negative
overflow_cast-result-else-is_negative c = record { sfits = half c.args.value.width c.args.value.bits c.args.value.narrow (less _ _ c.if-is_negative.ensures.1) }

pub returns-else-is_negative : goal.returns-else-is_negative
returns-else-is_negative c =
    let below = less _ _ c.if-is_negative.ensures.1 in
    rw (lt-ltb _ _ below) (to_z_pos w128 c.args.value.bits (half c.args.value.width c.args.value.bits c.args.value.narrow below))
