use Rattle.std.proofs.lemmas.Bool.{false≢true}
use Rattle.bit_words.specs.Numbers.{WritesDigits}
use Rattle.fir_lexer.specs.Tokens.{QuotesNumber}
use Rattle.fir_lexer.proofs.Quotes.{past_iff, past_along}
use Rattle.fir_lexer.proofs.lexing.is_past_range_quoted.Goals as goal

pub returns-in-Some : goal.returns-in-Some
returns-in-Some c = past_along (QuotesNumber c.args.bytes.now) (WritesDigits c.in-Some.base c.in-Some.digits.now) _ c.in-Some.ensures.some
    (past_iff (WritesDigits c.in-Some.base c.in-Some.digits.now) _ _ c.digits_value.ensures.answer c.digits_value.ensures.only c.is_over.ensures)

pub returns-in-None : goal.returns-in-None
returns-in-None c = (λ t. absurd (false≢true t), λ p. absurd (c.in-None.ensures.none p.0 p.1))
