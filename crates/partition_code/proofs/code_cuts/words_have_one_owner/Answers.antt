use Rattle.partition_code.proofs.Owners.{owner_below, owner_of, owner_of_sink}
use Rattle.partition_code.proofs.code_cuts.words_have_one_owner.Goals as goal

pub returns-clause-below : goal.returns-clause-below
returns-clause-below c = λ codes cut i lt. owner_below codes cut i lt

pub returns-clause-one : goal.returns-clause-one
returns-clause-one c = λ codes cut i k code e own. owner_of codes cut i k code e own

pub returns-clause-part : goal.returns-clause-part
returns-clause-part c = λ codes cut i k part e has. owner_of_sink codes cut i k part e has
