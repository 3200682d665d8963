use Rattle.settling_laws.proofs.Traces.{one_trace}
use Rattle.settling_laws.proofs.leaf_reads.circuits_have_one_trace.Goals as goal

pub returns : goal.returns
returns c = one_trace
