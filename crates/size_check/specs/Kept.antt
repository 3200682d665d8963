-- The components that are known, as the bodies keep them.
use Rattle.std.specs.Prelude.{ℕ, List, map, All}
use Rattle.fir_tree.specs.LeafNames.{Texts}
use Rattle.size_check.specs.declared.component.Component.{Component}
use Rattle.type_index.specs.Knowing.{HasWays}
use Rattle.size_check.specs.Typings.{Known}

abbrev pub types_of : List (ℕ × Component) → Known
types_of entries = map (λ e. (e.0, e.1.known.typ)) entries

-- the bytes of the ways to the leaves of a component and of its parts are right
abbrev pub IsMeasured : Texts → Component → Type 0
IsMeasured texts c = ∥ HasWays texts c.known.typ c.known.index ∥₁

abbrev pub AreMeasured : Texts → List (ℕ × Component) → Type 0
AreMeasured texts entries = All (λ e. IsMeasured texts e.1) entries
