use Rattle.std.proofs.Common.{append-nil, sym, ◌∙◌}
use Rattle.fir_lexer.proofs.Readings.{one_reading, joined_all}
use Rattle.fir_lexer.proofs.laws.texts_have_one_reading.Goals as goal

pub returns-clause-one : goal.returns-clause-one
returns-clause-one c text pieces others a b = one_reading a b

pub returns-clause-whole : goal.returns-clause-whole
returns-clause-whole c text pieces a = sym (append-nil _) ∙ joined_all a
