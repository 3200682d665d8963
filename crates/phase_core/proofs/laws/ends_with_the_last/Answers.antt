use Rattle.phase_core.proofs.Runs.{last_words}
use Rattle.phase_core.proofs.laws.ends_with_the_last.Goals as goal

pub returns : goal.returns
returns c = λ s t j v is o live _ _ last. last_words s t j v is o live last
