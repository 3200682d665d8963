use Rattle.std.proofs.Common.{refl}
use Rattle.std.proofs.lemmas.Option.{slice_get_read}
use Rattle.memory_ports.proofs.Marking.{marks_memory, marks_end}
use Rattle.memory_ports.proofs.reads.read_data.Goals as goal

pub loop-number-preserved : goal.loop-number-preserved
loop-number-preserved c = marks_memory c.args.flat.now.memories c.loop-number.number c.memory-item.result _ _ _
    (slice_get_read c.args.flat.now.memories _ c.loop-number.number c.memory-item.result refl (rw c.as_slice-memory-items.ensures at c.loop-number-test.true) (rw c.as_slice-memory-items.ensures at c.memory-item.is))
    c.loop-number.invariant c.in_ok-mark_memory.ensures

pub returns : goal.returns
returns c = marks_end c.args.flat.now _ c.loop-number.number (rw c.as_slice-memory-items.ensures at c.loop-number-test.false) c.loop-number.invariant
