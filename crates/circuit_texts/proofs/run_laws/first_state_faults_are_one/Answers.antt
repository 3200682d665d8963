use Rattle.fir_meaning.specs.Components.{design_of}
use Rattle.circuit_texts.proofs.Sound.{well_formed_is_sound}
use Rattle.circuit_texts.proofs.Once.{fault_once}
use Rattle.circuit_texts.proofs.run_laws.first_state_faults_are_one.Goals as goal

pub returns : goal.returns
returns c = λ texts fitted well none text fault other a b. fault_once texts (design_of fitted) (well_formed_is_sound texts fitted well none) text fault other a b
