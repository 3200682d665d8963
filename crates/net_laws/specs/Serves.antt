-- A net that serves a circuit: it is the circuit's, whose flat order lists each leaf of the run once and whose types are sound.
use Rattle.fir_meaning.specs.Components.{Design, HasBundles}
use Rattle.fir_meaning.specs.States.{State}
use Rattle.fir_tree.specs.LeafNames.{Texts}
use Rattle.ground_net.specs.declared.net.Net.{Net}
use Rattle.ground_net.specs.Cycles.{NetState}
use Rattle.net_of_circuit.specs.FlatOrder.{all_leaves, all_memories, ListsLeaves}
use Rattle.net_of_circuit.specs.NetOf.{IsNetOf, MatchingState}
use Rattle.net_laws.specs.Typed.{IsTyped}

pub record Serves (texts : Texts) (design : Design) (net : Net) : Type 0 where
  pub of : IsNetOf texts design net
  pub lists : ListsLeaves design of.placed
  pub has : HasBundles design
  pub typed : IsTyped design

-- A state of the circuit and one of the net that serves it are the same.
abbrev pub Matches : {texts : Texts} {design : Design} {net : Net} → Serves texts design net → State → NetState → Type 0
Matches {texts} {design} {net} serves s t = MatchingState (all_leaves serves.of.placed) (all_memories serves.of.placed) serves.of.elements net s t
