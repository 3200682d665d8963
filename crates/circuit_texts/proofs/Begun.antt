-- A snapshot that a net begins with is one that the circuit begins with.
use Rattle.std.proofs.Common.{ℕ, List, Option, Some, None}
use Rattle.fir_tree.specs.LeafNames.{Texts}
use Rattle.fir_meaning.specs.Components.{Design}
use Rattle.fir_meaning.specs.States.{State, first_state}
use Rattle.ground_net.specs.declared.net.Net.{Net}
use Rattle.ground_net.specs.Watching.{inputs}
use Rattle.ground_net.specs.Cycles.{NetState}
use Rattle.ground_net.specs.Cycles as net_cycles
use Rattle.net_laws.specs.Serves.{Serves, Matches}
use Rattle.circuit_run.proofs.Traces.{firsts_match}
use Rattle.snapshot_text.specs.declared.snapshot.Snapshot.{Snapshot}
use Rattle.snapshot_text.specs.Snapshots.{HoldsState}
use Rattle.circuit_texts.specs.Apart.{KeepsApart}
use Rattle.circuit_texts.specs.Held.{IsStartOf, Begins, anew, from_text}
use Rattle.circuit_texts.proofs.States.{state_matches}

pub starts_are_begins : (texts : Texts) (design : Design) (net : Net) (serves : Serves texts design net) → KeepsApart design → (begin : Option (List ℕ)) (snapshot : Snapshot) → IsStartOf net begin snapshot
    → (s : State) × (t : NetState) × HoldsState net (inputs net) t snapshot × Matches serves s t × Begins texts design begin s snapshot
starts_are_begins texts design net serves apart None snapshot start =
    let same = firsts_match texts design net serves in (
      first_state,
      net_cycles.first_state,
      start.2,
      same,
      anew snapshot (record { net = net; of = serves.of; state = net_cycles.first_state; same = same; holds = start.2 }) start.0 start.1,
    )
starts_are_begins texts design net serves apart (Some text) snapshot start =
    let s = state_matches texts design net serves apart start.state in (
      s.0,
      start.state,
      start.holds,
      s.1,
      from_text text s.0 snapshot (record { held = record { net = net; of = serves.of; state = start.state; same = s.1; holds = start.holds }; read = start.read }),
    )
