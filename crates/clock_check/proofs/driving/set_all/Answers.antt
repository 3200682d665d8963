use Rattle.std.proofs.Common.{◌∙◌, ap, option_map, if◌then◌else◌}
use Rattle.std.specs.List.{list_any}
use Rattle.std.proofs.lemmas.List.{take_all}
use Rattle.drive_check.specs.Keys.{leaf_of_key}
use Rattle.clock_check.specs.Driving.{driver_by, driver_of, is_behind}
use Rattle.clock_check.proofs.Reaching.{any_behind}
use Rattle.clock_check.proofs.driving.set_all.Goals as goal

pub returns : goal.returns
returns c = λ leaf.
    let component = c.args.reach.now.component in
    let path = c.args.part.now.path in
    let given = driver_by (option_map (λ key. leaf_of_key key.now) c.args.source) in
    let old = driver_of c.args.drivers.now.known.entries leaf in
    c.loop-way.invariant leaf
    ∙ ap (λ b. if b then given else old)
    (ap (list_any (is_behind component path leaf)) (take_all c.loop-way.way-index c.as_slice-way-items.result.now c.loop-way-test.false ∙ c.as_slice-way-items.ensures.value)
    ∙ any_behind component path leaf c.args.reach.now.ways.items)
