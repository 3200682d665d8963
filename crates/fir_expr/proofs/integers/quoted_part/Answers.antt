use Rattle.fir_expr.proofs.LiteralIntegers.{token_in_range, token_none, quoted_some, quoted_none}
use Rattle.fir_expr.proofs.integers.quoted_part.Goals as goal

pub quoted_number-requires : goal.quoted_number-requires
quoted_number-requires c = token_in_range c.args.text.now c.bytes.result.now c.in-Item.token (rw c.in-Item.is at c.requires) c.in-Text.is c.bytes.ensures

pub returns-in-Text-clause-some : goal.returns-in-Text-clause-some
returns-in-Text-clause-some c = quoted_some c.quoted_number.result _ _ (λ n q. (c.in-Item.token, c.in-Item.is, c.in-Text.is, rw c.bytes.ensures at q)) c.quoted_number.ensures.some

pub returns-in-Text-clause-none : goal.returns-in-Text-clause-none
returns-in-Text-clause-none c = quoted_none c.quoted_number.result _ _ (λ none. rw c.in-Item.is (token_none c.args.text.now c.bytes.result.now c.in-Item.token c.in-Text.is c.bytes.ensures none)) c.quoted_number.ensures.none
