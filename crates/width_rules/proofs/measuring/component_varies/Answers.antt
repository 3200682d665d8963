use Rattle.std.proofs.Common.{rules}
use Rattle.width_rules.proofs.Targets.{part_has_none}
use Rattle.width_rules.proofs.measuring.component_varies.Goals as goal

pub returns-else-is_open : goal.returns-else-is_open
returns-else-is_open c = λ e. part_has_none c.args.suffixes.now c.args.component.now (search rules)
