use Rattle.std.proofs.Common.{◌∷◌, refl, sym, ap, ◌∙◌, arith}
use Rattle.std.proofs.lemmas.Result.{IfOk-weaker}
use Rattle.bit_words.specs.Values.{integer_of}
use Rattle.fir_types.specs.declared.leaf.PathStep.TheVariants as step
use Rattle.plain_cycle.specs.Runs.{design_in, state_at, given_at, values_at}
use Rattle.plain_cycle.proofs.Asked.{outside_none, outside_left}
use Rattle.plain_cycle.proofs.asking.outside.Goals as goal

pub returns-in_default-part_at : goal.returns-in_default-part_at
returns-in_default-part_at c = λ x is.
    let run = c.args.run.now in
    let moment = c.args.moment.now in
    c.nothing.ensures
    ∙ sym (outside_none (design_in run) (state_at run moment) (given_at run moment) (values_at run moment) x c.args.part.now is c.args.leaf.now c.as_slice-path.result.now c.in-Some.last _ c.as_slice-path.ensures (omega (arith, c.in-Some.ensures)) refl
    c.in_default-part_at.ensures.none)

pub returns : goal.returns
returns c =
    let run = c.args.run.now in
    let moment = c.args.moment.now in
    let y = c.in-Some-part_at.ensures.some in
    IfOk-weaker c.left_at.result _ _
    (λ v h x is. outside_left (design_in run) (state_at run moment) (given_at run moment) (values_at run moment) x c.args.part.now is c.args.leaf.now c.as_slice-path.result.now c.in-Some.last _ y.0 c.in_ok-key-2.key (integer_of v)
    c.as_slice-path.ensures (omega (arith, c.in-Some.ensures)) refl y.2 y.3 c.in_ok-key-2.ensures.component
    (c.in_ok-key-2.ensures.way ∙ ap (λ p. step.Field c.args.part.now.site.now.name ∷ p) c.as_slice-2.ensures) (h y.0 y.1))
    c.left_at.ensures
