use Rattle.partition_code.proofs.Standing.{each_word}
use Rattle.partition_code.proofs.sink_words.each_word_is_of_a_sink.Goals as goal

pub returns : goal.returns
returns c = λ net watch i w lt. each_word net w watch i lt
