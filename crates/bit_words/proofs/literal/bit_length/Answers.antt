use Rattle.std.proofs.Common.{◌≡◌, ℕ, suc, ◌+◌, ◌-◌, ◌*◌, ◌^◌, ◌<◌, ◌≤◌, arith, pow_mono, ⊎_elim}
use Rattle.std.proofs.lemmas.Bool.{cases_lt}
use Rattle.std.proofs.lemmas.Nat.{leading_length}
use Rattle.std.proofs.Math.Nat.{pow-suc}
use Rattle.bit_words.proofs.literal.bit_length.Goals as goal

least : (a m w : ℕ) → 2 ^ m ≤ 2 * a + 1 → a < 2 ^ w → m ≤ w
least a m w top below = ⊎_elim
    (λ less. let more : 2 ^ suc w ≤ 2 ^ m = pow_mono (omega arith) in let twice = pow-suc 2 w in absurd (omega arith))
    (λ most. most)
    (cases_lt w m)

length_is : (r unset m : ℕ) → r ≡ 128 - unset → unset + m ≡ 128 → r ≡ m
length_is r unset m e f = omega arith

pub returns-clause-below : goal.returns-clause-below
returns-clause-below c =
    let l = leading_length 128 c.args.number c.ranges.number.fits in
    rw (length_is c.from.result _ l.0 c.from.ensures l.1) l.2

pub returns-clause-least : goal.returns-clause-least
returns-clause-least c = λ width below.
    let l = leading_length 128 c.args.number c.ranges.number.fits in
    rw (length_is c.from.result _ l.0 c.from.ensures l.1) (least c.args.number l.0 width l.3 below)
