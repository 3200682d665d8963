use Rattle.std.proofs.Common.{sym, ap}
use Rattle.fir_types.specs.Memories.{read_latency_in}
use Rattle.fir_types.proofs.Lines.{first_line, none_more}
use Rattle.plain_cycle.proofs.Holding.{not_latency}
use Rattle.plain_cycle.proofs.sweep_memories.latency_of.Goals as goal

pub returns-in-ReadLatency : goal.returns-in-ReadLatency
returns-in-ReadLatency c =
    sym (first_line read_latency_in c.args.lines.now c.loop-line.line-index c.line-item.result c.in-ReadLatency.latency 0 c.loop-line-test.true c.line-item.is c.loop-line.invariant (ap read_latency_in c.in-ReadLatency.is))

pub loop-line-preserved : goal.loop-line-preserved
loop-line-preserved c =
    none_more read_latency_in c.args.lines.now c.loop-line.line-index c.line-item.result c.loop-line-test.true c.line-item.is c.loop-line.invariant (not_latency c.line-item.result c.in_default.not-ReadLatency)
