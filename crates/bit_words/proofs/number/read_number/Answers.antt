use Rattle.std.proofs.Common.{true, false}
use Rattle.bit_words.proofs.Readings.{minus_sign, no_sign, number_answer, number_answer_once}
use Rattle.bit_words.proofs.number.read_number.Goals as goal

pub returns-in-Some-clause-answer : goal.returns-in-Some-clause-answer
returns-in-Some-clause-answer c =
    number_answer c.args.bytes.now c.in-Some.rest.now true _ _ (minus_sign _ _ c.in-Some.ensures.some) c.read_magnitude.ensures.answer c.with_sign.ensures.ok c.with_sign.ensures.err

pub returns-in-Some-clause-only : goal.returns-in-Some-clause-only
returns-in-Some-clause-only c = λ other right. number_answer_once c.args.bytes.now _ other
    (number_answer c.args.bytes.now c.in-Some.rest.now true _ _ (minus_sign _ _ c.in-Some.ensures.some) c.read_magnitude.ensures.answer c.with_sign.ensures.ok c.with_sign.ensures.err)
    right

pub returns-in-None-clause-answer : goal.returns-in-None-clause-answer
returns-in-None-clause-answer c =
    number_answer c.args.bytes.now c.args.bytes.now false _ _ (no_sign _ c.in-None.ensures.none) c.read_magnitude-in-None.ensures.answer c.with_sign-in-None.ensures.ok c.with_sign-in-None.ensures.err

pub returns-in-None-clause-only : goal.returns-in-None-clause-only
returns-in-None-clause-only c = λ other right. number_answer_once c.args.bytes.now _ other
    (number_answer c.args.bytes.now c.args.bytes.now false _ _ (no_sign _ c.in-None.ensures.none) c.read_magnitude-in-None.ensures.answer c.with_sign-in-None.ensures.ok c.with_sign-in-None.ensures.err)
    right
