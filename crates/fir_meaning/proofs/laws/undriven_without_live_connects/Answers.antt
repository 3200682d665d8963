use Rattle.fir_meaning.proofs.Blocks.{drives_none}
use Rattle.fir_meaning.proofs.laws.undriven_without_live_connects.Goals as goal

pub returns : goal.returns
returns c = λ block leaf types f n. drives_none types leaf block f n
