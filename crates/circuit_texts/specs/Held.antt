-- A state of a circuit that is held as a text: how many cycles were run, what main's inputs had in the last of them, and what is kept.
use Rattle.std.specs.Prelude.{◌≡◌, ℕ, List, Option, Some, None, map}
use Rattle.place_text.specs.First.{IsFirst}
use Rattle.fir_tree.specs.LeafNames.{Texts}
use Rattle.fir_meaning.specs.Components.{Design}
use Rattle.fir_meaning.specs.States.{State, first_state}
use Rattle.ground_net.specs.declared.net.Net.{Net}
use Rattle.ground_net.specs.Watching.{inputs}
use Rattle.ground_net.specs.Cycles.{NetState}
use Rattle.ground_net.specs.Cycles as net_cycles
use Rattle.net_of_circuit.specs.FlatOrder.{all_leaves, all_memories}
use Rattle.net_of_circuit.specs.NetOf.{IsNetOf, MatchingState}
use Rattle.stimulus.specs.Rows.{zero_of}
use Rattle.snapshot_text.specs.declared.snapshot.Snapshot.{Snapshot}
use Rattle.snapshot_text.specs.declared.fault.StateFault.{StateFault}
use Rattle.snapshot_text.specs.Cells.{cells_of}
use Rattle.snapshot_text.specs.Texts.{IsState}
use Rattle.snapshot_text.specs.Snapshots.{HoldsState, IsSnapshot, values_of, snapshot_text}
use Rattle.snapshot_text.specs.Faults.{IsFault, place_of, rank_of}

-- A snapshot holds this state of a circuit: a net of the circuit has the same state, and the snapshot is one of it.
pub record IsHeld (texts : Texts) (design : Design) (s : State) (snapshot : Snapshot) : Type 0 where
  pub net : Net
  pub of : IsNetOf texts design net
  pub state : NetState
  pub same : MatchingState (all_leaves of.placed) (all_memories of.placed) of.elements net s state
  pub holds : HoldsState net (inputs net) state snapshot

-- The text of a circuit's state.
pub record IsStateText (texts : Texts) (design : Design) (s : State) (snapshot : Snapshot) (text : List ℕ) : Type 0 where
  pub held : IsHeld texts design s snapshot
  pub is : text ≡ snapshot_text held.net (inputs held.net) held.state snapshot

-- A text is read as this state of a circuit.
pub record IsReadAs (texts : Texts) (design : Design) (text : List ℕ) (s : State) (snapshot : Snapshot) : Type 0 where
  pub held : IsHeld texts design s snapshot
  pub read : IsState (cells_of held.net (inputs held.net)) text snapshot.cycle (values_of held.net held.state snapshot.inputs)

-- Where a run begins: with the state that a text says; and where there is no text, with all 0 before the first cycle.
pub data Begins (texts : Texts) (design : Design) : Option (List ℕ) → State → Snapshot → Type 0 where
  anew : (snapshot : Snapshot) (held : IsHeld texts design first_state snapshot) → snapshot.cycle ≡ 0 → snapshot.inputs ≡ map zero_of (inputs held.net) → Begins texts design None first_state snapshot
  from_text : (text : List ℕ) (s : State) (snapshot : Snapshot) → IsReadAs texts design text s snapshot → Begins texts design (Some text) s snapshot

-- The first fault of a text that isn't a state of the circuit.
pub record IsFirstStateFault (texts : Texts) (design : Design) (text : List ℕ) (fault : StateFault) : Type 0 where
  pub net : Net
  pub of : IsNetOf texts design net
  pub first : IsFirst place_of rank_of (IsFault (cells_of net (inputs net)) text) fault

-- The same of a net, for the contracts of functions: the snapshot that a text is read as, or the one before the first cycle.
abbrev pub IsStartOf : Net → Option (List ℕ) → Snapshot → Type 0
IsStartOf net None snapshot = (snapshot.cycle ≡ 0) × (snapshot.inputs ≡ map zero_of (inputs net)) × HoldsState net (inputs net) net_cycles.first_state snapshot
IsStartOf net (Some text) snapshot = IsSnapshot net (inputs net) text snapshot
