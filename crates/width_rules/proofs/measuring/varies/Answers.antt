use Rattle.std.proofs.Common.{◌≡◌, false, rules}
use Rattle.width_rules.specs.Sources.{component}
use Rattle.width_rules.specs.Targets.{has_variable}
use Rattle.width_rules.proofs.Targets.{part_has_none}
use Rattle.width_rules.proofs.measuring.varies.Goals as goal

pub returns-in-None : goal.returns-in-None
returns-in-None c =
    let own = component c.args.known.now.entries c.args.name in
    let none : has_variable own.slots ≡ false = search rules in
    λ e. part_has_none c.args.suffixes.now own none
