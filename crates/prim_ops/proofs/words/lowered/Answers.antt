use Rattle.std.proofs.Common.{◌<◌, ◌≤◌, ◌^◌, sym, arith, pow_mono}
use Rattle.std.proofs.Math.Nat.{div-eq_of_lt}
use Rattle.prim_ops.proofs.words.lowered.Goals as goal

pub returns-else-by-lt128 : goal.returns-else-by-lt128
returns-else-by-lt128 c =
    let most : 2 ^ 128 ≤ 2 ^ c.args.by = pow_mono c.if-by-lt128.false in
    let below : c.args.number < 2 ^ c.args.by = omega (arith, c.ranges.number.fits) in
    sym (div-eq_of_lt below)
