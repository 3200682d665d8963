use Rattle.std.proofs.Common.{refl}
use Rattle.std.proofs.lemmas.Result.{err_from_is_err_and}
use Rattle.stimulus.specs.Reading.{shown}
use Rattle.stimulus.proofs.Saying.{too_many, three}
use Rattle.stimulus.proofs.forms.read_setting.Goals as goal

pub returns-in_err-no_more-clause-err : goal.returns-in_err-no_more-clause-err
returns-in_err-no_more-clause-err c =
    let p = err_from_is_err_and c.from_residual-in_err-no_more.result c.from_residual-in_err-no_more.ensures.1 in
    let digits = c.in_ok-cycle.ensures.ok in
    let number = c.in_ok-number.ensures.ok in
    rw (p.1, p.2) (too_many c.args.bytes.now (shown c.args.first) (shown c.in_ok-leaf.leaf) (shown c.in_ok-value_word.value_word) c.in_ok-leaf.ensures.ok.words c.in_ok-value_word.ensures.ok.words
    c.in_err-no_more.field-0.0 (digits.0, digits.1) (number.0.negative, number.0.magnitude, number.1) c.in_err-no_more.ensures.err)

pub returns-clause-ok : goal.returns-clause-ok
returns-clause-ok c =
    let digits = c.in_ok-cycle.ensures.ok in
    let number = c.in_ok-number.ensures.ok in (
      record { cycle_word = shown c.args.first; leaf = shown c.in_ok-leaf.leaf; value_word = shown c.in_ok-value_word.value_word; cycle = digits.0; number = number.0 },
      record { cycle_word = refl; leaf = refl; value_word = refl; cycle = digits.2; number = number.2 },
      record {
        words = three c.args.bytes.now (shown c.args.first) (shown c.in_ok-leaf.leaf) (shown c.in_ok-value_word.value_word) c.in_ok-leaf.ensures.ok.words c.in_ok-value_word.ensures.ok.words c.in_ok-no_more.ensures.ok;
        cycle = digits.1;
        number = number.1;
      },
    )
