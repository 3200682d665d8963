-- The lines of a run of the net are those of a trace of the circuit.
use Rattle.std.proofs.Common.{◌≡◌, ℕ, ◌+◌, List, [], ◌∷◌, ◌++◌, map, refl, sym, ap, ap₂, ◌∙◌, codes, decimal}
use Rattle.std.specs.List.{flat_map, range_with_len, enumerate_from}
use Rattle.std.proofs.lemmas.List.Folds.{flat_map-map}
use Rattle.bit_words.specs.declared.value.Value.{Value}
use Rattle.bit_words.specs.Values.{integer_of}
use Rattle.bit_words.specs.Decimals.{decimal_text}
use Rattle.fir_tree.specs.LeafNames.{Texts}
use Rattle.fir_meaning.specs.Components.{Design}
use Rattle.fir_meaning.specs.States as tree
use Rattle.ground_net.specs.declared.net.Net.{Net}
use Rattle.ground_net.specs.declared.net.Ports.{Ports}
use Rattle.ground_net.specs.declared.net.PortLeaf.{PortLeaf}
use Rattle.ground_net.specs.Reads.{IsOrder}
use Rattle.ground_net.specs.Watching.{inputs, watched}
use Rattle.ground_net.specs.Cycles.{first_state}
use Rattle.ground_net.specs.Nets.{IsWithin}
use Rattle.net_laws.specs.Serves.{Serves, Matches}
use Rattle.net_laws.proofs.Integers.{zero_fits}
use Rattle.net_laws.proofs.Traces.{run_traces}
use Rattle.stimulus.specs.declared.stimulus.Stimulus.{Stimulus}
use Rattle.stimulus.specs.Stimuli.{IsFormed}
use Rattle.trace_print.specs.Trace.{header_of, trace_line_of}
use Rattle.circuit_run.specs.Ports.{part_text, watched_parts, IsPortLeaf}
use Rattle.circuit_run.specs.Traces.{all_inputs, watched_names, line_of, IsTraceText}
use Rattle.circuit_run.specs.NetRuns.{watch, given_from, lines_from, AreLines}
use Rattle.circuit_run.proofs.Lists.{zip_map}
use Rattle.circuit_run.proofs.Parts.{watched_zip}
use Rattle.circuit_run.proofs.Matching.{all_given}
use Rattle.circuit_run.proofs.NetRuns.{run_on}

line_is : (cycle : ℕ) (row : List Value) → trace_line_of cycle row ≡ line_of (cycle, map integer_of row)
line_is cycle row = ap (λ l. decimal cycle ++ l ++ codes "\n") (sym (flat_map-map (λ n. codes " " ++ decimal_text n) integer_of row))

-- The lines of rows are those of their integers.
pub lines_are : (first : ℕ) (rows : List (List Value)) → lines_from first rows ≡ flat_map line_of (enumerate_from first (map (map integer_of) rows))
lines_are first [] = refl
lines_are first (row ∷ rows) = ap₂ (λ a b. a ++ b) (line_is first row) (lines_are (first + 1) rows)

-- The first state is in the ranges of its leaves.
pub first_within : (net : Net) → IsWithin net first_state
first_within net = record {
  registers = λ n t there. zero_fits t.kind t.width;
  contents = λ m element k memory t there at. zero_fits t.kind t.width;
  captured = λ n t there. zero_fits t.kind t.width;
}

module _ (texts : Texts) (design : Design) (net : Net) (serves : Serves texts design net) where
  pub firsts_match : Matches serves tree.first_state first_state
  firsts_match = record {
    registers = λ x n y there held. refl;
    contents = λ m element k p memory typ leaf there of_type at. refl;
    captured = λ x n y port field way there held at. refl;
  }

  pub names_are : map (λ (p : PortLeaf). p.name) (watched net) ≡ watched_names texts design
  names_are =
      let of = serves.of in
      zip_map (IsPortLeaf texts) (λ x. part_text texts x.1) (λ (p : PortLeaf). p.name) (λ x p h. h.name) (watched_parts design) (watched net)
      (watched_zip texts design of.placed of.elements net of.is serves.lists of.main of.found of.order (serves.typed.main of.main of.found))

  module _ (sequence : List ℕ) (order : IsOrder net sequence) (ports : Ports) (fed : ports.inputs ≡ inputs net) (stimulus : Stimulus) (formed : IsFormed ports stimulus) where
    -- Behind the names, the lines of the net's run are the text of a trace.
    pub text_of_lines : (lines : List ℕ) → AreLines net stimulus lines → IsTraceText texts design stimulus (header_of (map (λ (p : PortLeaf). p.name) (watched net)) ++ lines)
    text_of_lines lines a = record {
      rows = map (map integer_of) a.rows;
      trace = run_traces texts design net serves.of serves.lists serves.has serves.typed sequence order tree.first_state first_state firsts_match (first_within net)
          (all_inputs design stimulus) (given_from stimulus 0 stimulus.cycles)
          (all_given texts design net serves ports fed stimulus formed (range_with_len 0 stimulus.cycles)) a.run;
      is = ap₂ (λ x y. x ++ y) (ap header_of names_are) (a.are ∙ lines_are 0 a.rows);
    }

    -- There are such lines.
    pub some_lines : (lines : List ℕ) × AreLines net stimulus lines
    some_lines =
        let run = run_on net (watch net) sequence serves.of.well_formed order first_state (given_from stimulus 0 stimulus.cycles) in
        (lines_from 0 run.0, record { rows = run.0; run = run.1; are = refl })

    pub trace_exists : (bytes : List ℕ) × IsTraceText texts design stimulus bytes
    trace_exists = (header_of (map (λ (p : PortLeaf). p.name) (watched net)) ++ some_lines.0, text_of_lines some_lines.0 some_lines.1)
