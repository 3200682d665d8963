-- The fault of a net with a loop, and what is made of a net without one (FIRRTL specification 3.0, "Combinational Loops").
use Rattle.std.specs.Prelude.{◌≡◌, ℕ, List, Option, Some, None, codes}
use Rattle.place_text.specs.declared.place.Place.{Place}
use Rattle.ground_net.specs.declared.net.Net.{Net}
use Rattle.ground_net.specs.declared.net.Ordered.{Ordered}
use Rattle.ground_net.specs.Reads.{IsFirstLoop, HasNoLoop, IsOrder}
use Rattle.comb_order.specs.declared.fault.OrderFault.{OrderFault}
use Rattle.comb_order.specs.declared.fault.OrderFault.TheVariants.{CombLoop, NoMemory}

-- Of all leaves that are on a loop only the first, in flat order, is told.
pub data IsFault (net : Net) : OrderFault → Type 0 where
  comb_loop : (place : Place) → IsFirstLoop net place → IsFault net (CombLoop place)

-- where a fault stands; want of memory stands nowhere
abbrev pub place_of : OrderFault → Option Place
place_of (CombLoop place) = Some place
place_of NoMemory = None

-- the order of faults at one place
abbrev pub rank_of : OrderFault → ℕ
rank_of (CombLoop place) = 0
rank_of NoMemory = 1

-- the name of a fault's kind
abbrev pub kind_of : OrderFault → List ℕ
kind_of (CombLoop place) = codes "CombLoop"
kind_of NoMemory = codes "NoMemory"

-- The net as it was, with its assignments in an order. No leaf reads itself.
pub record IsOrdered (net : Net) (ordered : Ordered) : Type 0 where
  pub unchanged : ordered.net ≡ net
  pub sequence : IsOrder net ordered.sequence
  pub no_loop : HasNoLoop net
