use Rattle.partition_code.proofs.Places.{position_below, positions_rise, place, one_code}
use Rattle.partition_code.proofs.code_cuts.places_are_of_one_code.Goals as goal

pub returns-clause-below : goal.returns-clause-below
returns-clause-below c = λ codes cut k x code e h. position_below codes cut k code e x h

pub returns-clause-rise : goal.returns-clause-rise
returns-clause-rise c = λ codes cut k code e. positions_rise codes cut k code e

pub returns-clause-each : goal.returns-clause-each
returns-clause-each c = λ codes cut x lt. place codes cut x lt

pub returns-clause-one : goal.returns-clause-one
returns-clause-one c = λ codes cut x j k d e f g a b. one_code codes cut x j k d e f g a b
