use Rattle.std.proofs.Common.{refl}
use Rattle.fir_layout.specs.Layout.{tokens_in}
use Rattle.name_laws.proofs.Tokens.{tokens_are_in}
use Rattle.name_laws.proofs.Spelled.{spelled_words, fields_are_words}
use Rattle.name_laws.proofs.laws.names_of_a_text_are_words.Goals as goal

pub returns : goal.returns
returns c = λ text list major main modules names are is. (spelled_words major text refl is.spelled (tokens_are_in text (tokens_in list) are) fields_are_words).1
