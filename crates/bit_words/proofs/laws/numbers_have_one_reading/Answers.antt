use Rattle.bit_words.proofs.Readings.{number_once}
use Rattle.bit_words.proofs.laws.numbers_have_one_reading.Goals as goal

pub returns-clause-magnitude : goal.returns-clause-magnitude
returns-clause-magnitude c = number_once
