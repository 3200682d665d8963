use Rattle.width_rules.proofs.Least.{least_once}
use Rattle.width_laws.proofs.laws.least_widths_are_one.Goals as goal

pub returns : goal.returns
returns c = least_once
