use Rattle.std.proofs.Common.{arith, inl, inr, ◌⊎◌, ◌<◌}
use Rattle.fir_tree.specs.Parts.{field_part}
use Rattle.fir_types.specs.declared.memory.PortMode.TheVariants.{ReadWriter}
use Rattle.reference_flow.specs.Reached.{Means, port_part}
use Rattle.reference_flow.proofs.Ports.{read_writer-rdata, read_writer-wmode, read_writer-wdata, read_writer-wmask, read_writer-none, one_of_two}
use Rattle.reference_flow.proofs.component.field_of_read_writer.Goals as goal
use Rattle.reference_flow.proofs.component.field_of_read_writer.Goals.{in_default-via-then-id-lt5, in_default-via-else-id-lt5+else-id-lt9}

pub returns-in-5 : goal.returns-in-5
returns-in-5 c place = rw (c.in-5.is, read_writer-rdata c.args.memory.now place) c.stored.ensures.element

pub returns-in-6 : goal.returns-in-6
returns-in-6 c place = rw c.in-6.is (read_writer-wmode c.args.memory.now place)

pub returns-in-7 : goal.returns-in-7
returns-in-7 c place =
    elim (one_of_two 7 c.args.id (omega (arith, c.in-7)) (omega (arith, c.in-7))) as (λ _. Means c.stored-in-7.result (field_part c.args.id (port_part c.args.memory.now ReadWriter place))) [
      | inl e ↦ rw (e, read_writer-wdata c.args.memory.now place) c.stored-in-7.ensures.element
      | inr e ↦ rw (e, read_writer-wmask c.args.memory.now place) c.stored-in-7.ensures.mask
    ]

pub returns-in_default : goal.returns-in_default
returns-in_default c place = (
  place,
  read_writer-none c.args.memory.now place c.args.id c.requires
      (elim c.in_default.branch as (λ _. (c.args.id < 5) ⊎ (8 < c.args.id)) [
        | in_default-via-then-id-lt5 w ↦ inl (omega (arith, w))
        | in_default-via-else-id-lt5+else-id-lt9 w ↦ inr (omega (arith, w))
      ]),
)
