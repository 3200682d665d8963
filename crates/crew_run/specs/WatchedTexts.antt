-- The trace of any leaves of a circuit's run under a stimulus.
use Rattle.std.specs.Prelude.{◌≡◌, ℕ, ℤ, List, ◌++◌, map, flat_map, slice_get, Some}
use Rattle.std.specs.List.{AllZip, enumerate_from}
use Rattle.fir_tree.specs.LeafNames.{Texts}
use Rattle.fir_meaning.specs.Components.{Design, FlatLeaf}
use Rattle.fir_meaning.specs.States.{WatchedTrace, first_state}
use Rattle.net_of_circuit.specs.FlatOrder.{Placed, Standing, all_leaves}
use Rattle.net_of_circuit.specs.NetOf.{flat_text}
use Rattle.stimulus.specs.declared.stimulus.Stimulus.{Stimulus}
use Rattle.trace_print.specs.Trace.{header_of}
use Rattle.circuit_run.specs.Traces.{all_inputs, line_of}

-- The leaves that stand at these numbers of the flat order.
abbrev pub StandAt : List Placed → List ℕ → List Standing → Type 0
StandAt placed = AllZip (λ x y. slice_get (all_leaves placed) x ≡ Some y)

-- The trace of leaves: their names, and then a line for each cycle with the integers that they have in it, from the state in which all
-- is 0.
pub record IsWatchedText (texts : Texts) (design : Design) (leaves : List FlatLeaf) (stimulus : Stimulus) (bytes : List ℕ) : Type 0 where
  pub rows : List (List ℤ)
  pub trace : WatchedTrace design leaves first_state (all_inputs design stimulus) rows
  pub is : bytes ≡ header_of (map (flat_text texts) leaves) ++ flat_map line_of (enumerate_from 0 rows)
