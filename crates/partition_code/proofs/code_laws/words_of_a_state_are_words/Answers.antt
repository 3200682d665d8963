use Rattle.partition_code.proofs.Placed.{words_counted, words_plain}
use Rattle.partition_code.proofs.code_laws.words_of_a_state_are_words.Goals as goal

pub returns-clause-counted : goal.returns-clause-counted
returns-clause-counted c = λ net s. words_counted net s

pub returns-clause-plain : goal.returns-clause-plain
returns-clause-plain c = λ net s. words_plain net s
