use Rattle.fir_meaning.proofs.Blocks.{drives_same}
use Rattle.fir_meaning.proofs.laws.drives_follow_live_connects.Goals as goal

pub returns : goal.returns
returns c = λ block leaf types f g a. drives_same types leaf block f g a
