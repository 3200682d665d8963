use Rattle.std.proofs.Common.{◌≡◌, refl, ap, rules, inl, inr, [], filter_map}
use Rattle.fir_types.specs.declared.fir_type.FirType.{FirType}
use Rattle.fir_types.specs.Bundles.{mask_of}
use Rattle.fir_types.specs.Memories.{element_in}
use Rattle.fir_types.proofs.Lines.{first_line, none_more, not_element}
use Rattle.fir_tree.specs.Parts.{part_of}
use Rattle.reference_flow.proofs.Stepping.{at_end, no_element, plain-empty, mask-empty}
use Rattle.reference_flow.proofs.component.stored.Goals as goal

pub returns-in-Element-clause-element : goal.returns-in-Element-clause-element
returns-in-Element-clause-element c =
    inl (ap (λ (t : FirType). part_of t c.args.flow) (first_line element_in c.args.memory.now.lines c.loop-line.line-index c.line-item.result c.in-Element.typ _
    (search rules) (search rules) c.loop-line.invariant (ap element_in c.in-Element.is)))

pub returns-in-Element-clause-mask : goal.returns-in-Element-clause-mask
returns-in-Element-clause-mask c =
    inr (ap (λ (t : FirType). part_of (mask_of t) c.args.flow) (first_line element_in c.args.memory.now.lines c.loop-line.line-index c.line-item.result c.in-Element.typ _
    (search rules) (search rules) c.loop-line.invariant (ap element_in c.in-Element.is)))

pub loop-line-preserved : goal.loop-line-preserved
loop-line-preserved c =
    none_more element_in c.args.memory.now.lines c.loop-line.line-index c.line-item.result (search rules) (search rules) c.loop-line.invariant (not_element c.line-item.result c.in_default.not-Element)

pub returns-clause-element : goal.returns-clause-element
returns-clause-element c = (
  refl,
  plain-empty _ (no_element c.args.memory.now (at_end (λ lines. filter_map element_in lines ≡ []) c.args.memory.now.lines c.loop-line.line-index
      (rw c.as_slice-line-items.ensures at c.loop-line-test.false) c.loop-line.invariant)),
)

pub returns-clause-mask : goal.returns-clause-mask
returns-clause-mask c = (
  refl,
  plain-empty _ (mask-empty _ (no_element c.args.memory.now (at_end (λ lines. filter_map element_in lines ≡ []) c.args.memory.now.lines c.loop-line.line-index
      (rw c.as_slice-line-items.ensures at c.loop-line-test.false) c.loop-line.invariant))),
)
