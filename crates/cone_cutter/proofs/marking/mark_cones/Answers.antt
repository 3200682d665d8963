use Rattle.std.proofs.Common.{◌+◌}
use Rattle.cone_cutter.specs.Rows.{row_at}
use Rattle.cone_cutter.proofs.marking.mark_cones.Goals as goal

pub returns : goal.returns
returns c = λ s lt. c.hand_on.ensures s (row_at c.args.needed.now (c.args.first + s)) (λ x f. c.requires.needs_in_order (c.args.first + s) x f) (c.mark_needs.ensures s lt)
