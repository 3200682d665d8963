use Rattle.std.proofs.Common.{arith, inl, inr}
use Rattle.fir_tree.specs.Parts.{field_part}
use Rattle.fir_types.specs.declared.memory.PortMode.TheVariants.{Writer}
use Rattle.reference_flow.specs.Reached.{Means, port_part}
use Rattle.reference_flow.proofs.Ports.{writer-data, writer-mask, writer-none, one_of_two}
use Rattle.reference_flow.proofs.component.field_of_writer.Goals as goal
use Rattle.reference_flow.proofs.component.field_of_writer.Goals.{in_default-via-then-id-lt3, in_default-via-else-id-lt3+else-id-lt5}

pub returns-in-3 : goal.returns-in-3
returns-in-3 c place =
    elim (one_of_two 3 c.args.id (omega (arith, c.requires)) (omega (arith, c.in-3))) as (λ _. Means c.stored.result (field_part c.args.id (port_part c.args.memory.now Writer place))) [
      | inl e ↦ rw (e, writer-data c.args.memory.now place) c.stored.ensures.element
      | inr e ↦ rw (e, writer-mask c.args.memory.now place) c.stored.ensures.mask
    ]

pub returns-in_default : goal.returns-in_default
returns-in_default c place = (
  place,
  writer-none c.args.memory.now place c.args.id
      (elim c.in_default.branch [ in_default-via-then-id-lt3 w ↦ omega (arith, w, c.requires) | in_default-via-else-id-lt3+else-id-lt5 w ↦ omega (arith, w, c.requires) ]),
)
