use Rattle.std.proofs.Common.{subst, sym, take}
use Rattle.std.proofs.lemmas.List.{take_all}
use Rattle.std.proofs.lemmas.List.Elements.{All-get_or}
use Rattle.type_index.specs.Gathering.{Gathers}
use Rattle.type_index.specs.Ports.{ArePortFields}
use Rattle.type_index.proofs.Built.{gathers_taken}
use Rattle.type_index.proofs.memories.gather_ports.Goals as goal

pub loop-port-init : goal.loop-port-init
loop-port-init c = λ element mask all keeps. (c.new-gathered.ensures c.args.names.now, keeps)

pub loop-port-preserved : goal.loop-port-preserved
loop-port-preserved c = λ element mask all keeps.
    let before = c.loop-port.invariant element mask all keeps in
    let own = subst (λ port. ArePortFields element mask port.typ) (sym c.port-item.is)
    (All-get_or (λ port. ArePortFields element mask port.typ) c.args.ports.now c.loop-port.port-index c.port-item.result c.loop-port-test.true all) in
    let part = c.in_ok-part.ensures element mask own before.1 in (
      gathers_taken c.args.names.now c.args.ports.now c.loop-port.port-index c.port-item.result c.push.new.self c.loop-port-test.true c.port-item.is
          (c.in_ok-push.ensures (take c.loop-port.port-index c.args.ports.now) before.0 part.0),
      part.1,
    )

pub returns : goal.returns
returns c = λ element mask all keeps.
    subst (λ ports. Gathers c.args.names.now ports c.loop-port.gathered) (take_all c.loop-port.port-index c.args.ports.now c.loop-port-test.false)
    (c.loop-port.invariant element mask all keeps).0
