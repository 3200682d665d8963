use Rattle.bit_words.proofs.Readings.{prefixed_answer, plain_answer, magnitude_answer_once}
use Rattle.bit_words.proofs.number.read_magnitude.Goals as goal

pub returns-in-Some-clause-answer : goal.returns-in-Some-clause-answer
returns-in-Some-clause-answer c = prefixed_answer c.args.bytes.now c.in-Some.base c.in-Some.digits.now c.in-Some.ensures.some _ c.digits_value.ensures.answer

pub returns-in-Some-clause-only : goal.returns-in-Some-clause-only
returns-in-Some-clause-only c = λ other right.
    magnitude_answer_once c.args.bytes.now _ other (prefixed_answer c.args.bytes.now c.in-Some.base c.in-Some.digits.now c.in-Some.ensures.some _ c.digits_value.ensures.answer) right

pub returns-in-None-clause-only : goal.returns-in-None-clause-only
returns-in-None-clause-only c = λ other right.
    magnitude_answer_once c.args.bytes.now _ other (plain_answer c.args.bytes.now c.in-None.ensures.none _ c.digits_value-in-None.ensures.answer) right
