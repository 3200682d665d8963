use Rattle.reset_names.proofs.Marking.{same_names, turned}
use Rattle.reset_names.proofs.Crossing.{scope_there}
use Rattle.reset_names.proofs.laws.resolved_circuits_have_the_same_scopes.Goals as goal

pub returns : goal.returns
returns c circuit tree r scope =
    let s = same_names circuit tree r in
    (scope_there circuit tree s scope, scope_there tree circuit (turned circuit tree s) scope)
