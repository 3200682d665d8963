use Rattle.bit_words.proofs.Congruence.{fit_same}
use Rattle.bit_words.proofs.laws.fitting_keeps_what_is_in_range.Goals as goal

pub returns : goal.returns
returns c = fit_same
