use Rattle.memory_ports.proofs.Marking.{marks_next}
use Rattle.memory_ports.proofs.reads.mark_read.Goals as goal

pub loop-element-preserved : goal.loop-element-preserved
loop-element-preserved c = marks_next c.args.memory c.args.port.now c.args.read.now c.args.read.now.leaves c.loop-element.element c.in_ok-shown.shown _ _ _
    (rw c.as_slice-leaf-items.ensures at c.loop-element-test.true) c.in_ok-shown.ensures c.loop-element.invariant (rw c.as_slice-leaf-items.ensures at c.mark_leaf.ensures)
