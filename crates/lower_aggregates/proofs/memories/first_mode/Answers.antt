use Rattle.std.proofs.Common.{sym, ap}
use Rattle.fir_meaning.specs.MemoryPorts.{port_in}
use Rattle.fir_types.proofs.Lines.{none_more}
use Rattle.lower_aggregates.proofs.Porting.{first_mode_there, not_port}
use Rattle.lower_aggregates.proofs.memories.first_mode.Goals as goal

pub returns-in-MemPort : goal.returns-in-MemPort
returns-in-MemPort c =
    sym (first_mode_there c.args.lines.now c.loop-line.line-index c.line-item.result _ c.loop-line-test.true c.line-item.is c.loop-line.invariant (ap port_in c.in-MemPort.is))

pub loop-line-preserved : goal.loop-line-preserved
loop-line-preserved c =
    none_more port_in c.args.lines.now c.loop-line.line-index c.line-item.result c.loop-line-test.true c.line-item.is c.loop-line.invariant (not_port c.line-item.result c.in_default.not-MemPort)
