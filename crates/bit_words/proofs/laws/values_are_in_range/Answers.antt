use Rattle.bit_words.proofs.Congruence.{integer_in_range, bits_back}
use Rattle.bit_words.proofs.laws.values_are_in_range.Goals as goal

pub returns-clause-in_range : goal.returns-clause-in_range
returns-clause-in_range c = λ value. integer_in_range value.kind value.width value.bits value.within

pub returns-clause-bits : goal.returns-clause-bits
returns-clause-bits c = λ value. bits_back value.kind value.width value.bits value.within
