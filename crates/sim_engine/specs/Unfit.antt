-- A circuit whose widths have a fault.
use Rattle.std.specs.Prelude.{List}
use Rattle.prim_ops.specs.declared.widths.Width.{Width}
use Rattle.fir_tree.specs.declared.scope.Checked.{Checked}
use Rattle.width_fit.specs.Faults.{IsFirst}
use Rattle.width_fit.specs.Fitting.{AreLeast}
use Rattle.width_fit.specs.declared.fault.WidthFault.{WidthFault}

-- the least widths have a fault, and this is the first one
pub record IsUnfit (checked : Checked) (given : WidthFault) : Type 0 where
  pub widths : List Width
  pub least : AreLeast checked.resolved widths
  pub first : IsFirst checked widths given
