use Rattle.partition_code.proofs.Owners.{publications}
use Rattle.partition_code.proofs.code_cuts.codes_publish_their_own.Goals as goal

pub returns-clause-there : goal.returns-clause-there
returns-clause-there c = λ codes cut k code e words inputs rho cycle j p f. (publications codes cut k code e words inputs rho cycle j p f).there

pub returns-clause-own : goal.returns-clause-own
returns-clause-own c = λ codes cut k code e words inputs rho cycle j p f. (publications codes cut k code e words inputs rho cycle j p f).own

pub returns-clause-plain : goal.returns-clause-plain
returns-clause-plain c = λ codes cut k code e words inputs rho cycle j p f. (publications codes cut k code e words inputs rho cycle j p f).plain
