use Rattle.fir_meaning.specs.Components.{design_of}
use Rattle.circuit_texts.proofs.Sound.{well_formed_is_sound}
use Rattle.circuit_texts.proofs.Once.{resumed_once}
use Rattle.circuit_texts.proofs.run_laws.resumed_texts_are_one.Goals as goal

pub returns : goal.returns
returns c = λ texts fitted well none stimulus begin bytes other a b. resumed_once texts (design_of fitted) (well_formed_is_sound texts fitted well none) stimulus begin bytes other a b
