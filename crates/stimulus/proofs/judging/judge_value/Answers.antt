use Rattle.std.proofs.Common.{ap, sym, ◌∙◌, subst}
use Rattle.place_text.specs.Places.{place}
use Rattle.bit_words.specs.declared.number.Number.{Number}
use Rattle.bit_words.specs.Values.{InRange}
use Rattle.bit_words.specs.Numbers.{integer_of_number}
use Rattle.stimulus.specs.Words.{Word}
use Rattle.stimulus.specs.declared.fault.StimFault.TheVariants.{ValueRange}
use Rattle.stimulus.proofs.Holding.{stands_some, stands_none, over_never, refused}
use Rattle.stimulus.proofs.judging.judge_value.Goals as goal
use Rattle.stimulus.proofs.judging.judge_value.Goals.{in_default-via-in-Some+else-fits, in_default-via-in_default}

pub returns-in_default : goal.returns-in_default
returns-in_default c = λ said is.
    let here = ap ValueRange (c.place_of.ensures ∙ ap (λ (w : Word). place c.args.reading.now.bytes.now w.at) is.value_word) in (
      here,
      elim c.in_default.branch [
        | in_default-via-in-Some+else-fits w ↦
            λ held.
            let same = stands_some _ _ _ w.in-Some.is is.number in
            let again = subst (λ (n : Number). InRange c.args.leaf.now.kind c.args.leaf.now.width (integer_of_number n)) (sym same) held in
            let true' = w.fits.ensures.1 (subst (λ n. InRange c.args.leaf.now.kind n (integer_of_number w.in-Some.number)) (sym w.into.ensures) again) in
            refused w.fits.result true' w.if-fits.false
        | in_default-via-in_default w ↦ over_never c.args.leaf.now.kind c.args.leaf.now.width said.number c.args.leaf.now.narrow (stands_none _ _ w.in_default.is is.number)
      ],
    )
