use Rattle.std.proofs.Common.{◌++◌, ap, sym, ◌∙◌}
use Rattle.std.specs.Option.{option_map}
use Rattle.circuit_run.proofs.Once.{traces_once}
use Rattle.crew_run.proofs.laws.traces_of_a_circuit_are_written_alike.Goals as goal

pub returns : goal.returns
returns c = λ texts design net sequence serves order stimulus old new other bytes others a left b right.
    left ∙ (ap (λ bs. option_map (λ written. written ++ bs) old) (traces_once texts design net sequence serves order stimulus bytes others a b) ∙ sym right)
