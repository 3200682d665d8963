use Rattle.partition_code.proofs.Told.{told_own}
use Rattle.partition_code.proofs.sink_words.sinks_leave_words_of_their_own.Goals as goal

pub returns-clause-words : goal.returns-clause-words
returns-clause-words c = λ net state instant s k p e. (told_own net state instant s k p e).has

pub returns-clause-plain : goal.returns-clause-plain
returns-clause-plain c = λ net state instant s k p e. (told_own net state instant s k p e).plain
