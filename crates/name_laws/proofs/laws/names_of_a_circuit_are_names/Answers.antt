use Rattle.std.proofs.Common.{refl}
use Rattle.fir_layout.specs.Layout.{tokens_in}
use Rattle.name_laws.proofs.Tokens.{tokens_are_in}
use Rattle.name_laws.proofs.Spelled.{spelled_words, fields_are_words}
use Rattle.name_laws.proofs.Items.{circuit_names}
use Rattle.name_laws.proofs.laws.names_of_a_circuit_are_names.Goals as goal

pub returns : goal.returns
returns c = λ text list circuit are is. circuit_names circuit is.lines is.names is.is (spelled_words is.major text refl is.spelled.spelled (tokens_are_in text (tokens_in list) are) fields_are_words).1
