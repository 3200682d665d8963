use Rattle.partition_code.proofs.Apart.{one_sink}
use Rattle.partition_code.proofs.Standing.{one_place}
use Rattle.partition_code.proofs.sink_words.words_are_of_one_sink.Goals as goal

pub returns-clause-sink : goal.returns-clause-sink
returns-clause-sink c = λ net a b i has other. one_sink net a b i has other

pub returns-clause-place : goal.returns-clause-place
returns-clause-place c = λ net watch j k i a b e f has other. one_place net watch j k i a b e f has other
