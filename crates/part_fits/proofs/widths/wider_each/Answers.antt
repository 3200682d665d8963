use Rattle.std.proofs.Common.{arith}
use Rattle.part_fits.proofs.Slots.{all_compared}
use Rattle.part_fits.proofs.widths.wider_each.Goals as goal

pub returns : goal.returns
returns c =
    all_compared c.args.first.now c.args.second.now c.loop-at.at c.loop-at.greater (omega arith) c.loop-at.invariant
