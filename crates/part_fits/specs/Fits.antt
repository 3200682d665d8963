-- The fitted types of the components that are known, which their parts take again.
use Rattle.std.specs.Prelude.{◌≡◌, ℕ, nat_eq, Bool, false, List, map, Some}
use Rattle.std.specs.Coded.{Coded-set, coded_bool, Π_prop}
use Rattle.std.specs.List.{list_any}
use Rattle.std.specs.Map.{lookup}
use Rattle.fir_types.specs.declared.fir_type.FirType.{FirType}
use Rattle.fir_types.specs.contracts.fir_type.FirType.{the_row}
use Rattle.prim_ops.specs.declared.widths.Width.{Width}
use Rattle.width_rules.specs.declared.component.Component.{Component}
use Rattle.width_rules.specs.Sources.{Known, component}
use Rattle.part_fits.specs.declared.fits.Fit.{Fit}
use Rattle.type_filling.specs.Filling.{filled}
use Rattle.part_fits.specs.Widths.{slot_width, is_over}

-- the fitted type of a component or of a part of it, and whether one of its widths is over the limit
pub record Fits (widths : List Width) (sized : Component) (typ : FirType) (over : Bool) : Type 0 where
  pub typ_is : typ ≡ filled sized.part.typ (map (slot_width widths) sized.slots)
  pub over_is : over ≡ list_any is_over (map (slot_width widths) sized.slots)

Fits-prop : (widths : List Width) (sized : Component) (typ : FirType) (over : Bool) → IsProp (Fits widths sized typ over)
Fits-prop widths sized typ over a b = λ j. record { typ_is = Coded-set the_row.coded _ _ a.typ_is b.typ_is j; over_is = Coded-set coded_bool _ _ a.over_is b.over_is j }

-- each name that has a fitted type has that of its component
pub record AreFits (widths : List Width) (known : Known) (fits : List (ℕ × Fit)) : Type 0 where
  pub each : (name : ℕ) (fit : Fit) → lookup (nat_eq name) fits ≡ Some fit → Fits widths (component known name) fit.typ fit.is_over

pub AreFits-prop : (widths : List Width) (known : Known) (fits : List (ℕ × Fit)) → IsProp (AreFits widths known fits)
AreFits-prop widths known fits a b = λ j. record {
  each = (Π_prop λ name. Π_prop λ fit. Π_prop λ found. Fits-prop widths (component known name) fit.typ fit.is_over) a.each b.each j;
}

-- a type without a width over the limit, and beside it its fitted type
pub record StandsBeside (widths : List Width) (sized : Component) (typ : FirType) (fitted : FirType) : Type 0 where
  pub same : typ ≡ sized.part.typ
  pub fits : Fits widths sized fitted false
