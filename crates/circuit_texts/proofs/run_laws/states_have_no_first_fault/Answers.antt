use Rattle.std.proofs.Common.{refl}
use Rattle.fir_layout.specs.Layout.{tokens_in}
use Rattle.fir_meaning.specs.Components.{design_of}
use Rattle.name_laws.proofs.Tokens.{tokens_are_in}
use Rattle.name_laws.proofs.Spelled.{spelled_words, fields_are_words}
use Rattle.name_laws.proofs.Items.{circuit_names}
use Rattle.circuit_texts.proofs.Sound.{well_formed_is_sound}
use Rattle.circuit_texts.proofs.Faultless.{no_fault}
use Rattle.circuit_texts.proofs.run_laws.states_have_no_first_fault.Goals as goal

pub returns-clause-names : goal.returns-clause-names
returns-clause-names c = λ texts fitted well none are text s snapshot fault a b. no_fault texts are (design_of fitted) (well_formed_is_sound texts fitted well none) text s snapshot fault a b

pub returns-clause-of_text : goal.returns-clause-of_text
returns-clause-of_text c = λ source list circuit tokens is fitted well none text s snapshot fault a b.
    no_fault circuit.names (circuit_names circuit is.lines is.names is.is (spelled_words is.major source refl is.spelled.spelled (tokens_are_in source (tokens_in list) tokens) fields_are_words).1)
    (design_of fitted) (well_formed_is_sound circuit.names fitted well none) text s snapshot fault a b
