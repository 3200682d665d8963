use Rattle.bit_words.proofs.Congruence.{fit_in_range, fit_congruent, one_fits}
use Rattle.bit_words.proofs.laws.fits_to_one_congruent_in_range.Goals as goal

pub returns-clause-in_range : goal.returns-clause-in_range
returns-clause-in_range c = fit_in_range

pub returns-clause-congruent : goal.returns-clause-congruent
returns-clause-congruent c = fit_congruent

pub returns-clause-one : goal.returns-clause-one
returns-clause-one c = one_fits
