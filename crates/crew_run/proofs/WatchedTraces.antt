-- The trace of any leaves as a text of rows.
use Rattle.std.proofs.Common.{◌≡◌, ℕ, ◌<◌, List, [], ◌∷◌, ◌++◌, map, slice_get, refl, sym, subst, ap, ap₂, ◌∙◌, append-nil}
use Rattle.std.specs.Prelude.{None, Some}
use Rattle.std.specs.List.{range_with_len}
use Rattle.bit_words.specs.declared.value.Value.{Value}
use Rattle.bit_words.specs.Values.{integer_of}
use Rattle.fir_tree.specs.LeafNames.{Texts}
use Rattle.fir_meaning.specs.Components.{Design, FlatLeaf}
use Rattle.fir_meaning.specs.States as tree
use Rattle.ground_net.specs.declared.net.Net.{Net}
use Rattle.ground_net.specs.declared.net.Ports.{Ports}
use Rattle.ground_net.specs.declared.net.Ordered.{Ordered}
use Rattle.ground_net.specs.Cycles.{first_state}
use Rattle.net_of_circuit.specs.FlatOrder.{Standing, all_leaves, flat_of}
use Rattle.net_of_circuit.specs.NetOf.{flat_text}
use Rattle.net_laws.specs.Serves.{Serves}
use Rattle.net_laws.proofs.Numbers.{below_length}
use Rattle.net_laws.proofs.Traces.{watched_traces}
use Rattle.stimulus.specs.declared.stimulus.Stimulus.{Stimulus}
use Rattle.trace_print.specs.Trace.{header_of}
use Rattle.row_texts.specs.Tellings.{rows_text, text_of_told}
use Rattle.circuit_run.specs.Traces.{all_inputs}
use Rattle.circuit_run.specs.NetRuns.{given_from, lines_from, IsPlanned}
use Rattle.circuit_run.proofs.Lists.{get_item}
use Rattle.circuit_run.proofs.Matching.{all_given}
use Rattle.circuit_run.proofs.Traces as circuit_traces
use Rattle.crew_run.specs.RunTexts.{IsRunText}
use Rattle.crew_run.specs.TraceTexts.{name_of_leaf, names_at, telling_of_names, trace_telling}
use Rattle.crew_run.specs.WatchedTexts.{StandAt, IsWatchedText}
use Rattle.crew_run.proofs.Traces.{told_all, lines_are}

module _ (texts : Texts) (design : Design) (net : Net) (serves : Serves texts design net) where
  -- the name of the leaf that stands at a number
  name_is : (x : ℕ) (y : Standing) → slice_get (all_leaves serves.of.placed) x ≡ Some y → name_of_leaf (slice_get net.leaves x) ≡ flat_text texts (flat_of y)
  name_is x y there =
      let leaf = get_item net.leaves x (subst (λ n. x < n) (sym serves.of.is.counted) (below_length (all_leaves serves.of.placed) x y there)) in
      ap name_of_leaf leaf.1 ∙ (serves.of.is.leaves_are x y leaf.0 there leaf.1).name

  pub names_are_flat : (watched : List ℕ) (leaves : List Standing) → StandAt serves.of.placed watched leaves → names_at net.leaves watched ≡ map (flat_text texts) (map flat_of leaves)
  names_are_flat [] [] are = refl
  names_are_flat [] (y ∷ leaves) are = absurd are
  names_are_flat (x ∷ watched) [] are = absurd are
  names_are_flat (x ∷ watched) (y ∷ leaves) are = ap₂ (λ n names. n ∷ names) (name_is x y are.0) (names_are_flat watched leaves are.1)

-- The text of such a run is the trace of these leaves.
pub watched_text_of_run : (texts : Texts) (design : Design) (ordered : Ordered) (ports : Ports) (stimulus : Stimulus) (seen : List ℕ) (serves : Serves texts design ordered.net) → IsPlanned ordered ports stimulus
    → (leaves : List Standing) → StandAt serves.of.placed seen leaves
    → (bytes : List ℕ) → IsRunText ordered.net seen first_state (given_from stimulus 0 stimulus.cycles) (trace_telling ordered.net seen) 0 bytes → IsWatchedText texts design (map flat_of leaves) stimulus bytes
watched_text_of_run texts design ordered ports stimulus seen serves planned leaves stand bytes of =
    let net = ordered.net in
    let names = names_at net.leaves seen in
    let t = telling_of_names names in
    record {
      rows = map (map integer_of) of.rows;
      trace = watched_traces texts design net serves.of serves.lists serves.has serves.typed ordered.sequence planned.order tree.first_state first_state (circuit_traces.firsts_match texts design net serves)
          (circuit_traces.first_within net) (all_inputs design stimulus) (given_from stimulus 0 stimulus.cycles)
          (all_given texts design net serves ports planned.fed stimulus planned.formed (range_with_len 0 stimulus.cycles)) seen leaves stand of.run;
      is = of.is ∙ (ap (text_of_told t 0) (told_all of.rows) ∙ ap₂ (λ h l. h ++ l) (ap header_of (names_are_flat texts design net serves seen leaves stand))
          (append-nil (rows_text t 0 None of.rows) ∙ (lines_are names 0 None of.rows ∙ circuit_traces.lines_are 0 of.rows)));
    }
