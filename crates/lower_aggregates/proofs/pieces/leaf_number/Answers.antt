use Rattle.std.proofs.Common.{◌∙◌}
use Rattle.fir_types.proofs.Counts.{counted}
use Rattle.lower_aggregates.proofs.pieces.leaf_number.Goals as goal

pub returns : goal.returns
returns c = c.in_ok-number.ensures ∙ counted c.args.typ.now
