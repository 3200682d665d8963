use Rattle.std.proofs.Common.{◌∙◌, nat_eq, sym}
use Rattle.std.specs.Map.{lookup}
use Rattle.clock_check.proofs.Entering.{if_ok, enters, stays}
use Rattle.clock_check.proofs.flat_key.flat_key.Goals as goal

pub returns-in-Some : goal.returns-in-Some
returns-in-Some c =
    if_ok c.enter.result
    (λ key h. h ∙ enters c.args.path.now c.args.leaf.now.component (lookup (nat_eq c.args.leaf.now.component) c.args.targets.now.entries) c.args.leaf.now.way.items c.in-Some.port
    (sym c.in-Some.is ∙ c.port_of.ensures))
    c.enter.ensures

pub returns-in-None : goal.returns-in-None
returns-in-None c =
    if_ok c.stay.result
    (λ key h. h ∙ stays c.args.path.now c.args.leaf.now.component (lookup (nat_eq c.args.leaf.now.component) c.args.targets.now.entries) c.args.leaf.now.way.items
    (sym c.in-None.is ∙ c.port_of.ensures))
    c.stay.ensures
