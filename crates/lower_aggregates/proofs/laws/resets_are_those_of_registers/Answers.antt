use Rattle.lower_aggregates.proofs.Resetting.{reset_is}
use Rattle.lower_aggregates.proofs.laws.resets_are_those_of_registers.Goals as goal

pub returns : goal.returns
returns c = λ holder m table has entries knows c' among types register j leaf there reset init condition s inits low ini made is set.
    reset_is holder m table has entries knows c' among types register j leaf there reset init condition s inits low ini made is set
