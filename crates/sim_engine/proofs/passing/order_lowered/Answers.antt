use Rattle.fir_meaning.specs.Components.{design_of}
use Rattle.sim_engine.proofs.Verdicts.{served}
use Rattle.sim_engine.proofs.passing.order_lowered.Goals as goal

pub returns : goal.returns
returns c =
    let texts = c.args.fitted.now.checked.resolved.names in
    let design = design_of c.args.fitted.now in
    let serves = c.in_ok-net.ensures in
    served texts design c.in_ok-net.net c.arranged.result serves (c.verdicts_are_of_circuits.ensures texts design c.in_ok-net.net serves c.arranged.result c.arranged.ensures)
