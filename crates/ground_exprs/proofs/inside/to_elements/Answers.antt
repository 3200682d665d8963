use Rattle.std.proofs.Common.{◌≡◌, ◌*◌, ◌∙◌, ap, sym, subst}
use Rattle.fir_types.specs.Leaves.{count}
use Rattle.fir_types.specs.declared.leaf.PathStep.TheVariants as step
use Rattle.field_tables.proofs.Parts.{element_is}
use Rattle.ground_exprs.specs.Numbers.{IsInside}
use Rattle.ground_exprs.proofs.Insides.{inside_element}
use Rattle.ground_exprs.proofs.Members.{some_same}
use Rattle.ground_exprs.proofs.inside.to_elements.Goals as goal

pub returns-clause-inside : goal.returns-clause-inside
returns-clause-inside c = λ k h.
    let same : c.in-Some.element.typ.now ≡ c.in-Vector.field-0 = some_same (c.in-Some.ensures ∙ element_is c.args.at.typ.now c.in-Vector.field-0 c.in-Vector.length c.in-Vector.is) in
    subst (λ t. IsInside c.args.at.typ.now (step.Element k) t (k * c.in_ok-stride.stride)) (sym same)
    (inside_element c.args.at.typ.now c.in-Vector.field-0 c.in-Vector.length k c.in_ok-stride.stride c.in-Vector.is (c.in_ok-stride.ensures ∙ ap count same) h)
