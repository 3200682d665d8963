use Rattle.net_laws.proofs.Traces.{nexts_match, nexts_within}
use Rattle.net_laws.proofs.laws.next_states_match.Goals as goal

pub returns-clause-matching : goal.returns-clause-matching
returns-clause-matching c = λ texts design net sequence serves order s t numbered rho matching within settled.
    nexts_match texts design net serves.of serves.lists serves.has serves.typed sequence order s t numbered rho matching within settled

pub returns-clause-within : goal.returns-clause-within
returns-clause-within c = λ texts design net sequence serves order s t numbered rho matching within settled.
    nexts_within texts design net serves.of serves.lists serves.has serves.typed sequence order s t numbered rho matching within settled
