use Rattle.std.proofs.Common.{ap, ◌∙◌}
use Rattle.fir_types.specs.Leaves.{count}
use Rattle.size_check.specs.Caps.{capped}
use Rattle.size_check.specs.Owns.{port_own, flat, sized}
use Rattle.size_check.proofs.Owning.{together_more, sized_plus}
use Rattle.size_check.proofs.owns.ports_own.Goals as goal

pub loop-port-preserved : goal.loop-port-preserved
loop-port-preserved c =
    let one = sized_plus 0 (count c.port-item.result.typ) 0 c.in_ok-size.size c.flat-leaves.result (flat c.args.names.now c.port-item.result.name.id c.port-item.result.typ) c.plus.result
    (c.in_ok-size.ensures ∙ ap (λ s. capped (sized 0 s.leaves 0)) c.flat-leaves.ensures) c.flat-leaves.ensures c.plus.ensures in
    together_more (port_own c.args.names.now) c.args.ports.now c.loop-port.port-index c.port-item.result c.loop-port.total c.plus.result c.plus-total.result
    c.loop-port-test.true c.port-item.is c.loop-port.invariant one c.plus-total.ensures
