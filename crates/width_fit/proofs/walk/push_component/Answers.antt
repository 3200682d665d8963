use Rattle.std.proofs.lemmas.Result.{on_ok_weaker}
use Rattle.width_fit.specs.Walks.{solved}
use Rattle.width_fit.proofs.Declaring.{component_told}
use Rattle.width_fit.proofs.walk.push_component.Goals as goal

pub returns : goal.returns
returns c =
    on_ok_weaker c.push_over.result
    (component_told (solved c.args.given.now) c.args.place c.args.slots.now c.args.widths.now c.any_unknown.result c.args.faults.now.items c.push_where.new.faults.items c.push_over.new.faults.items
    c.any_unknown.ensures c.requires c.in_ok-push_where.ensures)
    c.push_over.ensures
