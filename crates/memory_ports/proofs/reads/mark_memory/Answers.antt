use Rattle.std.proofs.Common.{refl}
use Rattle.std.proofs.lemmas.Option.{slice_get_read}
use Rattle.memory_ports.proofs.Marking.{marks_port}
use Rattle.memory_ports.proofs.reads.mark_memory.Goals as goal

pub loop-port-preserved : goal.loop-port-preserved
loop-port-preserved c = marks_port _ c.args.memory.now.ports c.loop-port.port-index c.port-item.result _ _ _
    (slice_get_read c.args.memory.now.ports _ c.loop-port.port-index c.port-item.result refl (rw c.as_slice-port-items.ensures at c.loop-port-test.true) (rw c.as_slice-port-items.ensures at c.port-item.is))
    c.loop-port.invariant c.in_ok-mark_port.ensures
