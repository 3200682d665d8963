-- The snapshot behind a stimulus.
use Rattle.std.proofs.Common.{◌≡◌, ◌+◌, ◌-◌, List, [], sym, subst, ◌∙◌}
use Rattle.ground_net.specs.declared.net.CutPart.{CutPart}
use Rattle.ground_net.specs.declared.net.Ordered.{Ordered}
use Rattle.ground_net.specs.declared.net.Ports.{Ports}
use Rattle.ground_net.specs.Watching.{inputs, AreValuesOf}
use Rattle.ground_net.specs.Cycles.{NetState}
use Rattle.stimulus.specs.declared.stimulus.Stimulus.{Stimulus}
use Rattle.circuit_texts.specs.StimulusParts.{last_row}
use Rattle.circuit_texts.proofs.Formed.{row_values}
use Rattle.snapshot_text.specs.declared.snapshot.Snapshot.{Snapshot}
use Rattle.snapshot_text.specs.Snapshots.{HoldsState}
use Rattle.circuit_run.specs.NetRuns.{IsPlanned}
use Rattle.crew_run.specs.declared.run.Run.{Run}
use Rattle.crew_run.specs.Epochs.{Reaches}
use Rattle.crew_run.specs.Runs.{IsRun}
use Rattle.circuit_texts.specs.Going.{FeedsFrom, all_given_behind, IsBehind}

module _ (ordered : Ordered) (ports : Ports) (stimulus : Stimulus) (planned : IsPlanned ordered ports stimulus) (start : Snapshot) (t : NetState) (holds : HoldsState ordered.net (inputs ordered.net) t start) where
  values : AreValuesOf ports.inputs start.inputs
  values = subst (λ l. AreValuesOf l start.inputs) (sym planned.fed) holds.inputs

  pub feeds_from : FeedsFrom ordered.net ports stimulus start.inputs
  feeds_from = record { feeds = record { well = planned.net; inputs_are = planned.fed; formed = planned.formed }; values = values }

  pub is_behind : (parts : List CutPart) (run : Run) (u : NetState) → Reaches ordered.net t (all_given_behind start.inputs stimulus) u → IsRun ordered [] parts u run
      → (behind : Snapshot) → behind.cycle ≡ start.cycle + stimulus.cycles → behind.inputs ≡ last_row start.inputs stimulus → behind.words ≡ run.words → IsBehind ordered.net t start stimulus behind u
  is_behind parts run u reached is behind cycle row words = record {
    reached = reached;
    holds = record {
      inputs = subst (AreValuesOf (inputs ordered.net)) (sym row) (subst (λ l. AreValuesOf l (last_row start.inputs stimulus)) planned.fed (row_values ports stimulus start.inputs (stimulus.cycles - 1) planned.formed values));
      within = is.at.within;
      words = words ∙ is.at.are;
    };
    cycle = cycle;
    inputs = row;
  }
