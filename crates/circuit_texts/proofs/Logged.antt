-- The text of a run that is watched at the leaves of its items is the log of its circuit.
use Rattle.std.proofs.Common.{ℕ, List, [], map, zip, None, refl, ◌∙◌, subst, arith}
use Rattle.std.specs.Prelude.{All}
use Rattle.std.specs.List.{AllZip, range_with_len}
use Rattle.bit_words.specs.Values.{integer_of}
use Rattle.fir_tree.specs.LeafNames.{Texts}
use Rattle.fir_tree.specs.declared.print.PrintItem.{PrintItem}
use Rattle.fir_meaning.specs.Components.{Design, FlatLeaf}
use Rattle.fir_meaning.specs.States as tree
use Rattle.ground_net.specs.declared.net.Net.{Net}
use Rattle.ground_net.specs.declared.net.Ordered.{Ordered}
use Rattle.ground_net.specs.declared.net.Ports.{Ports}
use Rattle.ground_net.specs.Cycles.{first_state}
use Rattle.net_of_circuit.specs.FlatOrder.{Standing, all_leaves, flat_of}
use Rattle.net_laws.specs.Serves.{Serves, Matches}
use Rattle.net_laws.proofs.Traces.{watched_traces}
use Rattle.stimulus.specs.declared.stimulus.Stimulus.{Stimulus}
use Rattle.row_texts.specs.Tellings.{Telling}
use Rattle.print_stop.specs.Logging.{log_telling}
use Rattle.print_stop.specs.Printing.{PathItem}
use Rattle.print_stop.specs.RunItems.{AreItems}
use Rattle.print_stop.specs.Logs.{IsLogOf}
use Rattle.print_stop.specs.Sound.{IsOfLeaf}
use Rattle.print_stop.specs.Sound as sound
use Rattle.print_stop.proofs.Rows.{told_log, whole_text}
use Rattle.circuit_run.specs.Traces.{all_inputs}
use Rattle.circuit_run.specs.NetRuns.{given_in, given_from, IsPlanned}
use Rattle.circuit_run.proofs.Matching.{all_given}
use Rattle.circuit_run.proofs.Traces.{first_within}
use Rattle.crew_run.specs.RunTexts.{IsRunText}
use Rattle.crew_run.proofs.Progressing.{none_told, begun_text}
use Rattle.found_items.specs.declared.found.ItemAt.{ItemAt}
use Rattle.found_items.specs.Finding.{IsFound}
use Rattle.circuit_texts.specs.Watched.{watch_of, ArePrints}
use Rattle.circuit_texts.proofs.Told.{told, of_prints}
use Rattle.circuit_texts.proofs.Shaped.{rows_are}

-- There is such a text.
pub some_text : (ordered : Ordered) (ports : Ports) (stimulus : Stimulus) (seen : List ℕ) (t : Telling) → IsPlanned ordered ports stimulus
    → (bytes : List ℕ) × IsRunText ordered.net seen first_state (given_from stimulus 0 stimulus.cycles) t 0 bytes
some_text ordered ports stimulus seen t planned =
    let begun = begun_text ordered.net seen first_state (given_in stimulus) t 0 ordered.sequence planned.net planned.order 0 stimulus.cycles (omega arith) [] first_state
    (none_told ordered.net seen first_state (given_in stimulus) t 0) in
    (begun.0, begun.1)

firsts_match : (texts : Texts) (design : Design) (net : Net) (serves : Serves texts design net) → Matches serves tree.first_state first_state
firsts_match texts design net serves = record {
  registers = λ x n y there held. refl;
  contents = λ m element k p memory typ leaf there of_type at. refl;
  captured = λ x n y port field way there held at. refl;
}

module _ (texts : Texts) (design : Design) (prints : List PrintItem) (ordered : Ordered) (serves : Serves texts design ordered.net) (items : List PathItem) (found : List ItemAt) (ps : List PrintItem)
    (are : AreItems texts design prints items) (all_found : AllZip (IsFound texts design prints (all_leaves serves.of.placed)) items found) (of : ArePrints prints found ps) where
  pub log_of_run : (ports : Ports) (stimulus : Stimulus) → IsPlanned ordered ports stimulus → (bytes : List ℕ)
      → IsRunText ordered.net (watch_of found) first_state (given_from stimulus 0 stimulus.cycles) (log_telling ps) 0 bytes → IsLogOf texts design prints (all_inputs design stimulus) bytes
  log_of_run ports stimulus planned bytes text =
      let all : List Standing = all_leaves serves.of.placed in
      let it = told texts design prints all items found all_found in
      let trace : tree.WatchedTrace design (map flat_of it.leaves) tree.first_state (all_inputs design stimulus) (map (map integer_of) text.rows) =
      watched_traces texts design ordered.net serves.of serves.lists serves.has serves.typed ordered.sequence planned.order tree.first_state first_state (firsts_match texts design ordered.net serves) (first_within ordered.net)
      (all_inputs design stimulus) (given_from stimulus 0 stimulus.cycles) (all_given texts design ordered.net serves ports planned.fed stimulus planned.formed (range_with_len 0 stimulus.cycles)) (watch_of found) it.leaves it.stand text.run in
      let shaped = rows_are texts design ordered.net serves ordered.sequence planned.order (watch_of found) it.leaves it.stand text.run in
      let of_leaves : All (AllZip (IsOfLeaf design) (sound.all_leaves (zip items it.nodes))) text.rows = subst (λ (l : List FlatLeaf). All (AllZip (IsOfLeaf design) l) text.rows) it.are shaped in
      let along : tree.WatchedTrace design (sound.all_leaves (zip items it.nodes)) tree.first_state (all_inputs design stimulus) (map (map integer_of) text.rows) =
      subst (λ (l : List FlatLeaf). tree.WatchedTrace design l tree.first_state (all_inputs design stimulus) (map (map integer_of) text.rows)) it.are trace in
      record {
        items = items;
        are = are;
        printed = _;
        line = _;
        logs = told_log design items it.nodes ps it.sound (of_prints texts design prints all items found ps all_found of) 0 None tree.first_state (all_inputs design stimulus) text.rows _ refl of_leaves refl along;
        is = text.is ∙ whole_text ps 0 text.rows;
      }
