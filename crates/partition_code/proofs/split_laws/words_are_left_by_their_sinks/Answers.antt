use Rattle.partition_code.proofs.SplitParts.{left_by_sink}
use Rattle.partition_code.proofs.split_laws.words_are_left_by_their_sinks.Goals as goal

pub returns : goal.returns
returns c = λ ordered watch parts state instant i s words w split has. left_by_sink ordered w watch parts split state instant i s has words
