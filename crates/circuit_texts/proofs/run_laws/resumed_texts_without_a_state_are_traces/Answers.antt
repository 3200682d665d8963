use Rattle.circuit_texts.proofs.Anew.{to_trace, from_trace}
use Rattle.circuit_texts.proofs.run_laws.resumed_texts_without_a_state_are_traces.Goals as goal

pub returns-clause-traces : goal.returns-clause-traces
returns-clause-traces c = λ texts design stimulus bytes a. to_trace texts design stimulus bytes a

pub returns-clause-resumed : goal.returns-clause-resumed
returns-clause-resumed c = λ texts design net serves stimulus bytes a. from_trace texts design net serves stimulus bytes a
