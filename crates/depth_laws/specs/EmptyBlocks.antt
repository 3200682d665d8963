-- A block that a list spells with its marks and with nothing between them (FIRRTL specification 3.0, "Circuits and Modules",
-- "Conditionals"). The grammar allows it, and the tree doesn't tell it from a block that is left out.
use Rattle.std.specs.Prelude.{◌≡◌, ℕ, ◌+◌, List, slice_get, Some}
use Rattle.fir_layout.specs.declared.laid.Laid.{Laid}
use Rattle.fir_layout.specs.declared.laid.Laid.TheVariants.{Open, Close}

pub record IsEmptyBlockAt (list : List Laid) (k : ℕ) : Type 0 where
  pub begin : ℕ
  pub end : ℕ
  pub opens : slice_get list k ≡ Some (Open begin)
  pub closes : slice_get list (k + 1) ≡ Some (Close end)
