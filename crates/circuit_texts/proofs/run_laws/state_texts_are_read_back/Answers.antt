use Rattle.std.proofs.Common.{refl}
use Rattle.fir_meaning.specs.Components.{design_of}
use Rattle.circuit_texts.proofs.Sound.{well_formed_is_sound}
use Rattle.circuit_texts.proofs.Once.{read_once}
use Rattle.circuit_texts.proofs.ReadBack.{reads}
use Rattle.circuit_texts.proofs.run_laws.state_texts_are_read_back.Goals as goal

pub returns-clause-read : goal.returns-clause-read
returns-clause-read c = λ texts design s snapshot text few a. reads texts design s snapshot text few a

pub returns-clause-only : goal.returns-clause-only
returns-clause-only c = λ texts fitted well none text s t snapshot other a b.
    let same = read_once texts (design_of fitted) (well_formed_is_sound texts fitted well none) text text s t snapshot other refl a b in
    (same.states, same.cycles, same.inputs)
