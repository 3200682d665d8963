use Rattle.fir_expr.proofs.LiteralIntegers.{no_quotes, quoted_here, no_quoted_here}
use Rattle.fir_expr.proofs.integers.quoted_number.Goals as goal

pub returns-in_default-clause-none : goal.returns-in_default-clause-none
returns-in_default-clause-none c = no_quotes c.args.string.now c.in_default.ensures.none

pub returns-in-Ok-clause-some : goal.returns-in-Ok-clause-some
returns-in-Ok-clause-some c = rw c.signed.ensures (quoted_here c.args.string.now c.in-Some.inner.now c.split_minus-negative.result.1.now c.in-Some.base c.split_minus-negative.result.0 c.in-Some.ensures.some.0 c.in-Some.ensures.some.1
    c.split_minus-negative.ensures c.in-Ok.magnitude c.in-Ok.ensures.answer.0)

pub returns-in-Err-clause-none : goal.returns-in-Err-clause-none
returns-in-Err-clause-none c = no_quoted_here c.args.string.now c.in-Some.inner.now c.split_minus-negative.result.1.now c.in-Some.base c.split_minus-negative.result.0 c.in-Some.ensures.some.0 c.in-Some.ensures.some.1
    c.split_minus-negative.ensures c.in-Err._fault c.in-Err.ensures.answer c.requires
