-- A run that goes on from no state is one from the state in which all is 0.
use Rattle.std.proofs.Common.{◌≡◌, ℕ, List, [], ◌∷◌, ◌++◌, map, None, refl, sym, ap, ◌∙◌, subst}
use Rattle.std.specs.List.{flat_map, enumerate_from}
use Rattle.fir_tree.specs.LeafNames.{Texts}
use Rattle.fir_meaning.specs.Components.{Design}
use Rattle.fir_meaning.specs.States.{State, Inputs, Trace, first_state}
use Rattle.ground_net.specs.declared.net.Net.{Net}
use Rattle.ground_net.specs.declared.net.PortLeaf.{PortLeaf}
use Rattle.ground_net.specs.Watching.{AreValuesOf, inputs}
use Rattle.ground_net.specs.Cycles as net_cycles
use Rattle.ground_net.specs.Words.{words_of}
use Rattle.net_laws.specs.Serves.{Serves}
use Rattle.stimulus.specs.declared.stimulus.Stimulus.{Stimulus}
use Rattle.stimulus.specs.Rows.{zero_of}
use Rattle.trace_print.specs.Trace.{header_of}
use Rattle.circuit_run.specs.Traces.{all_inputs, watched_names, line_of, IsTraceText}
use Rattle.circuit_run.proofs.Traces.{first_within, firsts_match}
use Rattle.snapshot_text.specs.declared.snapshot.Snapshot.{Snapshot}
use Rattle.circuit_texts.specs.Held.{Begins, anew}
use Rattle.circuit_texts.specs.StateTexts.{all_inputs_from, IsResumedText}
use Rattle.circuit_texts.proofs.Given.{given_from_zeros}

-- what there is where there is no text
record IsAnew (s : State) (snapshot : Snapshot) : Type 0 where
  state : s ≡ first_state
  cycle : snapshot.cycle ≡ 0
  leaves : List PortLeaf
  row : snapshot.inputs ≡ map zero_of leaves

anew_of : {texts : Texts} {design : Design} {s : State} {snapshot : Snapshot} → Begins texts design None s snapshot → IsAnew s snapshot
anew_of (anew snapshot held cycle row) = record { state = refl; cycle = cycle; leaves = inputs held.net; row = row }

pub to_trace : (texts : Texts) (design : Design) (stimulus : Stimulus) (bytes : List ℕ) → IsResumedText texts design stimulus None bytes → IsTraceText texts design stimulus bytes
to_trace texts design stimulus bytes a =
    let begun = anew_of a.begins in
    let given : all_inputs_from design a.snapshot.inputs stimulus ≡ all_inputs design stimulus = ap (λ row. all_inputs_from design row stimulus) begun.row ∙ given_from_zeros design begun.leaves stimulus in
    record {
      rows = a.rows;
      trace = subst (λ (s : State). Trace design s (all_inputs design stimulus) a.rows) begun.state (subst (λ (gs : List Inputs). Trace design a.start gs a.rows) given a.trace);
      is = a.is ∙ ap (λ n. header_of (watched_names texts design) ++ flat_map line_of (enumerate_from n a.rows)) begun.cycle;
    }

zero_values : (leaves : List PortLeaf) → AreValuesOf leaves (map zero_of leaves)
zero_values [] = tt
zero_values (leaf ∷ leaves) = ((refl, refl), zero_values leaves)

pub from_trace : (texts : Texts) (design : Design) (net : Net) → Serves texts design net → (stimulus : Stimulus) (bytes : List ℕ) → IsTraceText texts design stimulus bytes → IsResumedText texts design stimulus None bytes
from_trace texts design net serves stimulus bytes a =
    let snapshot : Snapshot = record { cycle = 0; inputs = map zero_of (inputs net); words = words_of net net_cycles.first_state } in
    record {
      start = first_state;
      snapshot = snapshot;
      begins = anew snapshot
          (record {
            net = net;
            of = serves.of;
            state = net_cycles.first_state;
            same = firsts_match texts design net serves;
            holds = record { inputs = zero_values (inputs net); within = first_within net; words = refl };
          }) refl refl;
      rows = a.rows;
      trace = subst (λ (gs : List Inputs). Trace design first_state gs a.rows) (sym (given_from_zeros design (inputs net) stimulus)) a.trace;
      is = a.is;
    }
