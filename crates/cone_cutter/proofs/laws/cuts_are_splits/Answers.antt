use Rattle.cone_cutter.proofs.Splitting.{is_split}
use Rattle.cone_cutter.proofs.laws.cuts_are_splits.Goals as goal

pub returns : goal.returns
returns c = λ ordered watch workers it h. is_split ordered watch workers it h
