use Rattle.prim_ops.proofs.Divisions.{whole, small, sign, no_more}
use Rattle.prim_ops.proofs.laws.divisions_make_up_the_numerator.Goals as goal

pub returns-clause-whole : goal.returns-clause-whole
returns-clause-whole c = whole

pub returns-clause-small : goal.returns-clause-small
returns-clause-small c = small

pub returns-clause-below : goal.returns-clause-below
returns-clause-below c = sign

pub returns-clause-above : goal.returns-clause-above
returns-clause-above c = no_more
