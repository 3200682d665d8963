use Rattle.snapshot_text.proofs.Naming.{name_yes}
use Rattle.snapshot_text.proofs.lines.is_name.Goals as goal

pub returns-in-Some-behind : goal.returns-in-Some-behind
returns-in-Some-behind c =
    name_yes c.args.name.now c.args.line.now.name.now c.in-Some-behind.rest.now c.args.line.now.element c.in-Some.element c.is_element.result c.in-Some.is c.in-Some-behind.ensures.some c.is_element.ensures
