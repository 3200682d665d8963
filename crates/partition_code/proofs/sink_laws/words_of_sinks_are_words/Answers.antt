use Rattle.partition_code.proofs.Parts.{word_below}
use Rattle.partition_code.proofs.sink_laws.words_of_sinks_are_words.Goals as goal

pub returns : goal.returns
returns c = λ net sink i has. word_below net sink i has
