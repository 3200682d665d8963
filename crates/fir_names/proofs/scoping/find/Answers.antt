use Rattle.std.proofs.Common.{rules}
use Rattle.fir_names.proofs.Meaning.{graph_is}
use Rattle.fir_names.proofs.scoping.find.Goals as goal

pub push_loops-requires : goal.push_loops-requires
push_loops-requires c = record { graph = graph_is c.args.circuit.now c.as_slice-3.result.now (search rules) }
