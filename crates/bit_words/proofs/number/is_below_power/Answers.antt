use Rattle.std.proofs.Common.{◌≤◌, ◌^◌, arith, pow_mono}
use Rattle.std.proofs.lemmas.Bool.{le-leb}
use Rattle.bit_words.proofs.number.is_below_power.Goals as goal

pub returns-then-exponent-ge128 : goal.returns-then-exponent-ge128
returns-then-exponent-ge128 c =
    let large : 2 ^ 128 ≤ 2 ^ c.args.exponent = pow_mono c.if-exponent-ge128.true in
    (λ _. omega (arith, c.ranges.number), λ _. le-leb 128 c.args.exponent c.if-exponent-ge128.true)
