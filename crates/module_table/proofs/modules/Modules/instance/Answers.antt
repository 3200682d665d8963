use Rattle.std.proofs.Math.Logic.{∥∥₁_map}
use Rattle.module_table.proofs.modules.Modules.instance.Goals as goal

pub returns-clause-ways : goal.returns-clause-ways
returns-clause-ways c = ∥∥₁_map c.in_ok-instance.ensures.known (λ right. right.ways)
