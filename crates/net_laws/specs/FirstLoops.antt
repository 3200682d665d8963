-- The first leaf of a circuit that is on a combinational loop (FIRRTL specification 3.0, "Combinational Loops").
use Rattle.std.specs.Prelude.{◌≡◌, ℕ, ◌<◌, List, [], slice_get, Some}
use Rattle.place_text.specs.declared.place.Place.{Place}
use Rattle.ground_net.specs.declared.net.Net.{Net}
use Rattle.ground_net.specs.declared.net.Ordered.{Ordered}
use Rattle.ground_net.specs.Reads.{IsOrder}
use Rattle.fir_meaning.specs.Components.{Design, TypedModule, FlatLeaf, module_named}
use Rattle.fir_meaning.specs.Loops.{ReadsThrough, HasNoLoop}
use Rattle.net_of_circuit.specs.FlatOrder.{Placed, InFlatOrder, Standing, all_leaves, flat_of}
use Rattle.comb_order.specs.declared.fault.OrderFault.{OrderFault}
use Rattle.comb_order.specs.declared.fault.OrderFault.TheVariants.{CombLoop}

-- A leaf of the run is on a loop where it reads itself, directly or through others.
abbrev pub IsOnLoop : Design → FlatLeaf → Type 0
IsOnLoop design x = ReadsThrough design x x

-- The place of the first leaf, in flat order, that is on a loop: that of its component's name. A leaf of an instance's port is the
-- port's in the module that the instance makes, so its place is the port's there; that of a memory's port has the memory's.
pub record IsFirstLoopOf (design : Design) (place : Place) : Type 0 where
  pub main : TypedModule
  pub found : module_named design design.main ≡ Some main
  pub placed : List Placed
  pub order : InFlatOrder design [] main main.components placed
  pub at : ℕ
  pub standing : Standing
  pub there : slice_get (all_leaves placed) at ≡ Some standing
  pub here : IsOnLoop design (flat_of standing)
  pub first : (x : ℕ) (y : Standing) → x < at → slice_get (all_leaves placed) x ≡ Some y → ¬ (IsOnLoop design (flat_of y))
  pub is : standing.0.c.declaration.place ≡ place

-- The fault of a circuit with a loop: of all leaves that are on one only the first is told.
pub data IsLoopFault (design : Design) : OrderFault → Type 0 where
  first_loop : (place : Place) → IsFirstLoopOf design place → IsLoopFault design (CombLoop place)

-- The net as it was, with its assignments in an order. No leaf of the circuit reads itself.
pub record IsOrderedFor (design : Design) (net : Net) (ordered : Ordered) : Type 0 where
  pub unchanged : ordered.net ≡ net
  pub sequence : IsOrder net ordered.sequence
  pub no_loop : HasNoLoop design
