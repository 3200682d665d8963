use Rattle.partition_code.proofs.PortsLeft.{watched_word}
use Rattle.partition_code.proofs.examples.watched_leaves_leave_nothing.Goals as goal

pub returns-clause-no_word : goal.returns-clause-no_word
returns-clause-no_word c = λ net x i h. watched_word net x i h
