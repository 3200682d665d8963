use Rattle.fir_meaning.proofs.Blocks.{certain_drives}
use Rattle.fir_meaning.proofs.laws.certain_statements_drive.Goals as goal

pub returns : goal.returns
returns c = λ block leaf types f e. certain_drives types leaf block f e
