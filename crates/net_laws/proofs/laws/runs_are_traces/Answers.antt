use Rattle.net_laws.proofs.Traces.{run_traces}
use Rattle.net_laws.proofs.laws.runs_are_traces.Goals as goal

pub returns : goal.returns
returns c = λ texts design net sequence serves order s t matching within given numbered are rows run.
    run_traces texts design net serves.of serves.lists serves.has serves.typed sequence order s t matching within given numbered are run
