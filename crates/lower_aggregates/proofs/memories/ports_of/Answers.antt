use Rattle.std.proofs.Common.{arith}
use Rattle.std.proofs.lemmas.Grind.{common_steps}
use Rattle.lower_aggregates.specs.Memories.{reading_of}
use Rattle.lower_aggregates.proofs.Porting.{ports_more}
use Rattle.lower_aggregates.proofs.memories.ports_of.Goals as goal

pub loop-line-preserved : goal.loop-line-preserved
loop-line-preserved c =
    let r = ports_more c.args.first c.args.count (reading_of c.args.memory.now) c.as_slice-lines.result.now c.loop-line.line-index c.line-item.result c.loop-line.ports c.push_port.new.ports c.loop-line.number c.in_ok-number.number
    c.loop-line-test.true c.line-item.is c.loop-line.invariant.ports c.loop-line.invariant.number (grind (arith, common_steps)) (grind (arith, common_steps)) in
    record { ports = r.0; number = r.1 }
