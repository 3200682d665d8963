use Rattle.std.proofs.Common.{rules}
use Rattle.module_table.specs.Components.{part_in}
use Rattle.module_table.proofs.Leading.{leads_along}
use Rattle.module_table.proofs.components.Components.part.Goals as goal

pub returns : goal.returns
returns c =
    leads_along (λ part. part.typ.now) c.args.self.now.parts c.args.reference.name (part_in c.in_ok-component.component.now) c.args.reference.suffixes.now c.part_along.result
    (search rules) (rw c.known.ensures.typ at c.part_along.ensures)
