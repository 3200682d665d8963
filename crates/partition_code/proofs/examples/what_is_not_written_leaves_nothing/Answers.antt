use Rattle.partition_code.proofs.PortsLeft as left
use Rattle.partition_code.proofs.examples.what_is_not_written_leaves_nothing.Goals as goal

pub returns-clause-idle : goal.returns-clause-idle
returns-clause-idle c = λ net m k memory port s e. left.idle net m k memory port s e

pub returns-clause-past : goal.returns-clause-past
returns-clause-past c = λ net m k memory port s e. left.past net m k memory port s e

pub returns-clause-masked : goal.returns-clause-masked
returns-clause-masked c = λ net m k memory port s e. left.masked net m k memory port s e
