use Rattle.bit_words.proofs.Digits.{read_more, no_digits, digits_answer_once}
use Rattle.bit_words.proofs.number.digits_value.Goals as goal

pub loop-byte-preserved : goal.loop-byte-preserved
loop-byte-preserved c = read_more _ _ _ _ _ _ _ _ c.loop-byte-test.true c.from.ensures c.radix_of-radix.ensures c.in-Some.ensures.value c.loop-byte.invariant c.with_digit-value.ensures

pub returns-in_default-clause-answer : goal.returns-in_default-clause-answer
returns-in_default-clause-answer c = no_digits _ _ _ _ _ c.loop-byte-test.true c.from.ensures c.radix_of-radix.ensures c.in_default.ensures.value

pub returns-in_default-clause-only : goal.returns-in_default-clause-only
returns-in_default-clause-only c = λ other right.
    digits_answer_once c.args.base c.args.digits.now _ other (no_digits _ _ _ _ _ c.loop-byte-test.true c.from.ensures c.radix_of-radix.ensures c.in_default.ensures.value) right
