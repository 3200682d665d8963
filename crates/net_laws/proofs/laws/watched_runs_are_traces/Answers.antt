use Rattle.net_laws.proofs.Traces.{watched_traces}
use Rattle.net_laws.proofs.laws.watched_runs_are_traces.Goals as goal

pub returns : goal.returns
returns c = λ texts design net sequence serves order s t matching within given numbered given_are watch leaves are rows run.
    watched_traces texts design net serves.of serves.lists serves.has serves.typed sequence order s t matching within given numbered given_are watch leaves are run
