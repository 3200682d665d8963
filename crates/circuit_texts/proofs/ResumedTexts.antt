-- The texts of a run that goes on from a snapshot.
use Rattle.std.proofs.Common.{◌≡◌, ℕ, List, [], ◌++◌, map, Option, subst, ap, ap₂, ◌∙◌, append-nil, arith}
use Rattle.std.specs.Prelude.{None}
use Rattle.bit_words.specs.Values.{integer_of}
use Rattle.fir_tree.specs.LeafNames.{Texts}
use Rattle.fir_meaning.specs.Components.{Design}
use Rattle.fir_meaning.specs.States.{State}
use Rattle.ground_net.specs.declared.net.Net.{Net}
use Rattle.ground_net.specs.declared.net.Ports.{Ports}
use Rattle.ground_net.specs.declared.net.Ordered.{Ordered}
use Rattle.ground_net.specs.Watching.{inputs}
use Rattle.ground_net.specs.Cycles.{NetState}
use Rattle.net_of_circuit.specs.FlatOrder.{all_leaves}
use Rattle.net_laws.specs.Runs.{Run, AreGiven}
use Rattle.net_laws.specs.Serves.{Serves, Matches}
use Rattle.net_laws.proofs.Traces.{run_traces}
use Rattle.stimulus.specs.declared.stimulus.Stimulus.{Stimulus}
use Rattle.trace_print.specs.Trace.{header_of}
use Rattle.row_texts.specs.Tellings.{rows_text, text_of_told}
use Rattle.snapshot_text.specs.declared.snapshot.Snapshot.{Snapshot}
use Rattle.snapshot_text.specs.Snapshots.{HoldsState}
use Rattle.circuit_run.specs.Traces.{watched_names}
use Rattle.circuit_run.specs.NetRuns.{watch, IsPlanned}
use Rattle.circuit_run.proofs.Traces as circuit_traces
use Rattle.crew_run.specs.RunTexts.{IsRunText}
use Rattle.crew_run.specs.TraceTexts.{names_at, telling_of_names, trace_telling}
use Rattle.crew_run.proofs.Progressing.{none_told, begun_text}
use Rattle.crew_run.proofs.Traces.{told_all, lines_are, names_are}
use Rattle.circuit_texts.specs.Held.{Begins}
use Rattle.circuit_texts.specs.StateTexts.{all_inputs_from, IsResumedText, IsSavedText}
use Rattle.circuit_texts.proofs.Inputs.{all_given_from}
use Rattle.circuit_texts.specs.Going.{given_behind, all_given_behind, IsTextBehind}
use Rattle.circuit_texts.proofs.Reached.{reaches}

-- There is such a text.
pub some_text : (ordered : Ordered) (ports : Ports) (stimulus : Stimulus) (seen : List ℕ) → IsPlanned ordered ports stimulus → (t : NetState) (start : Snapshot)
    → (bytes : List ℕ) × IsRunText ordered.net seen t (all_given_behind start.inputs stimulus) (trace_telling ordered.net seen) start.cycle bytes
some_text ordered ports stimulus seen planned t start =
    let given = given_behind start.inputs stimulus in
    let tell = trace_telling ordered.net seen in
    let begun = begun_text ordered.net seen t given tell start.cycle ordered.sequence planned.net planned.order 0 stimulus.cycles (omega arith) [] t (none_told ordered.net seen t given tell start.cycle) in
    (begun.0, begun.1)

module _ (texts : Texts) (design : Design) (ordered : Ordered) (ports : Ports) (stimulus : Stimulus) (serves : Serves texts design ordered.net) (planned : IsPlanned ordered ports stimulus) (begin : Option (List ℕ)) (start : Snapshot) (s : State) (t : NetState)
    (holds : HoldsState ordered.net (inputs ordered.net) t start) (matching : Matches serves s t) (begins : Begins texts design begin s start) where
  abbrev net : Net
  net = ordered.net

  given_are : AreGiven (all_leaves serves.of.placed) net (all_inputs_from design start.inputs stimulus) (all_given_behind start.inputs stimulus)
  given_are = all_given_from texts design net serves ports planned.fed stimulus planned.formed start.inputs holds.inputs

  -- The text of a run from this state is the trace of the circuit.
  pub resumed_of_run : (seen : List ℕ) → seen ≡ watch net → (bytes : List ℕ) → IsRunText net seen t (all_given_behind start.inputs stimulus) (trace_telling net seen) start.cycle bytes → IsResumedText texts design stimulus begin bytes
  resumed_of_run seen default bytes of =
      let names = names_at net.leaves seen in
      let tell = telling_of_names names in
      let run = subst (λ w. Run net w t (all_given_behind start.inputs stimulus) of.rows) default of.run in
      let names_default : names ≡ watched_names texts design = ap (names_at net.leaves) default ∙ (names_are net ∙ circuit_traces.names_are texts design net serves) in
      record {
        start = s;
        snapshot = start;
        begins = begins;
        rows = map (map integer_of) of.rows;
        trace = run_traces texts design net serves.of serves.lists serves.has serves.typed ordered.sequence planned.order s t matching holds.within (all_inputs_from design start.inputs stimulus) (all_given_behind start.inputs stimulus) given_are run;
        is = of.is ∙ (ap (text_of_told tell start.cycle) (told_all of.rows) ∙ ap₂ (λ h l. h ++ l) (ap header_of names_default)
            (append-nil (rows_text tell start.cycle None of.rows) ∙ (lines_are names start.cycle None of.rows ∙ circuit_traces.lines_are start.cycle of.rows)));
      }

  -- The text of the net's state behind a stimulus is that of the circuit's.
  pub saved_of_run : (text : List ℕ) → IsTextBehind net t start stimulus text → IsSavedText texts design stimulus begin text
  saved_of_run text b =
      let on = reaches texts design net serves ordered.sequence planned.order s t b.state matching holds.within (all_inputs_from design start.inputs stimulus) (all_given_behind start.inputs stimulus) given_are b.reached.reached in
      record {
        start = s;
        snapshot = start;
        begins = begins;
        behind = on.0;
        reached = on.1;
        saved = b.behind;
        is = record { held = record { net = net; of = serves.of; state = b.state; same = on.2; holds = b.reached.holds }; is = b.is };
        cycle = b.reached.cycle;
        inputs = b.reached.inputs;
      }
