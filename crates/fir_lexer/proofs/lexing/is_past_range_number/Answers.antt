use Rattle.bit_words.specs.Numbers.{IsMagnitude}
use Rattle.fir_lexer.proofs.Quotes.{past_iff}
use Rattle.fir_lexer.proofs.lexing.is_past_range_number.Goals as goal

pub returns : goal.returns
returns c = past_iff (IsMagnitude c.args.bytes.now) _ _ c.read_magnitude.ensures.answer c.read_magnitude.ensures.only c.is_over.ensures
