use Rattle.fir_meaning.proofs.Initialized.{initialized_drives}
use Rattle.fir_meaning.proofs.laws.initialized_leaves_are_driven.Goals as goal

pub returns : goal.returns
returns c = λ fitted all path m k leaf stands must rho. initialized_drives fitted all path m k leaf stands must rho
