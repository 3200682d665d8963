-- The wire of an item in its module.
use Rattle.std.specs.Prelude.{◌≡◌, ℕ, true, List, ◌++◌, Some}
use Rattle.place_text.specs.declared.place.Place.{Place}
use Rattle.fir_types.specs.declared.fir_type.Shape.TheVariants as shape
use Rattle.fir_tree.specs.declared.stmt.Stmt.{Stmt}
use Rattle.item_lines.specs.Items.{heads}
use Rattle.fir_meaning.specs.Components.{TypedModule, Component, A_wire, component_named}
use Rattle.fir_meaning.specs.WellTyped.{known_in, are_typed}

-- The component is a wire of one bit, declared where the statements of its block are the heads of items and these behind them, and these
-- are well typed.
pub record IsItemWire (m : TypedModule) (c : Component) (behind : List Stmt) : Type 0 where
  pub declared : component_named m c.declaration.name ≡ Some c
  pub sort : c.declaration.sort ≡ A_wire
  pub one_bit : c.typ.shape ≡ shape.Unsigned (Some 1)
  pub first : ℕ
  pub places : List Place
  pub names : List (List ℕ)
  pub block : c.declaration.block ≡ (heads first places names).0 ++ behind
  pub typed : are_typed (known_in m) behind ≡ true
