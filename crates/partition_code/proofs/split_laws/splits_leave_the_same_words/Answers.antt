use Rattle.partition_code.proofs.SplitParts.{same_words}
use Rattle.partition_code.proofs.split_laws.splits_leave_the_same_words.Goals as goal

pub returns : goal.returns
returns c = λ ordered watch seen parts others state instant words w split other counted. same_words ordered w watch seen parts others split other state instant words counted
