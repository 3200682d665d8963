-- The text of a run is the dump of its circuit.
use Rattle.std.proofs.Common.{◌≡◌, ℕ, List, [], ◌∷◌, map, Some, refl, sym, ap, subst, ◌∙◌, arith}
use Rattle.std.specs.Prelude.{slice_get}
use Rattle.std.specs.List.{AllZip, range_with_len}
use Rattle.fir_tree.specs.LeafNames.{Texts, text_of}
use Rattle.fir_meaning.specs.Components.{Design}
use Rattle.fir_meaning.specs.States as tree
use Rattle.ground_net.specs.declared.net.Net.{Net}
use Rattle.ground_net.specs.declared.net.Ordered.{Ordered}
use Rattle.ground_net.specs.declared.net.Ports.{Ports}
use Rattle.ground_net.specs.declared.net.PortLeaf.{PortLeaf}
use Rattle.ground_net.specs.Naming.{IsFirstNamed}
use Rattle.ground_net.specs.Cycles.{first_state}
use Rattle.net_of_circuit.specs.FlatOrder.{Standing, all_leaves, flat_of}
use Rattle.net_laws.specs.Serves.{Serves, Matches}
use Rattle.net_laws.proofs.Traces.{watched_traces}
use Rattle.stimulus.specs.declared.stimulus.Stimulus.{Stimulus}
use Rattle.row_texts.specs.Tellings.{Telling}
use Rattle.vcd_write.specs.Texts.{vcd_text}
use Rattle.vcd_write.specs.Reading.{AreRows}
use Rattle.vcd_write.specs.Pieces.{dump_telling}
use Rattle.vcd_write.proofs.Parted.{told_text}
use Rattle.circuit_run.specs.Traces.{all_inputs}
use Rattle.circuit_run.specs.NetRuns.{given_in, given_from, IsPlanned}
use Rattle.net_laws.proofs.Numbers.{some_same}
use Rattle.circuit_run.proofs.Matching.{all_given}
use Rattle.circuit_run.proofs.Traces.{first_within}
use Rattle.crew_run.specs.RunTexts.{IsRunText}
use Rattle.crew_run.proofs.Progressing.{none_told, begun_text}
use Rattle.circuit_texts.specs.Variables.{IsFirstOfName, IsVariable, AreChosen}
use Rattle.circuit_texts.specs.VcdTexts.{IsVcdText}
use Rattle.circuit_texts.specs.NetNames.{AreNumbersOf, IsLeafAt}
use Rattle.circuit_texts.proofs.Zips.{zip_join, zip_turn, zip_same}
use Rattle.circuit_texts.proofs.Flat.{of_run, standing_at, first_in_circuit}
use Rattle.circuit_texts.proofs.Watched.{shown, shown_stand, shown_flat}
use Rattle.circuit_texts.proofs.WatchedRows.{rows_are}

-- There is such a text.
pub some_text : (ordered : Ordered) (ports : Ports) (stimulus : Stimulus) (seen : List ℕ) (t : Telling) → IsPlanned ordered ports stimulus
    → (bytes : List ℕ) × IsRunText ordered.net seen first_state (given_from stimulus 0 stimulus.cycles) t 0 bytes
some_text ordered ports stimulus seen t planned =
    let begun = begun_text ordered.net seen first_state (given_in stimulus) t 0 ordered.sequence planned.net planned.order 0 stimulus.cycles (omega arith) [] first_state
    (none_told ordered.net seen first_state (given_in stimulus) t 0) in
    (begun.0, begun.1)

module _ (texts : Texts) (design : Design) (net : Net) (serves : Serves texts design net) where
  abbrev all : List Standing
  all = all_leaves serves.of.placed

  abbrev Stands : ℕ → Standing → Type 0
  Stands x y = slice_get all x ≡ Some y

  firsts_match : Matches serves tree.first_state first_state
  firsts_match = record {
    registers = λ x n y there held. refl;
    contents = λ m element k p memory typ leaf there of_type at. refl;
    captured = λ x n y port field way there held at. refl;
  }

  -- the leaves of the circuit that stand at the numbers
  standings : (seen : List ℕ) (vars : List PortLeaf) → AllZip (IsLeafAt net.leaves) seen vars → (leaves : List Standing) × AllZip Stands seen leaves × AllZip (IsVariable texts all) vars leaves
  standings [] [] are = ([], tt, tt)
  standings [] (v ∷ vars) are = absurd are
  standings (x ∷ seen) [] are = absurd are
  standings (x ∷ seen) (v ∷ vars) are =
      let s = standing_at texts design net serves x are.0.leaf are.0.there in
      let rest = standings seen vars are.1 in
      let one : IsVariable texts all v s.0 = record {
        there = ap (λ (w : PortLeaf). slice_get all w.leaf) are.0.is ∙ s.1;
        name = ap (λ (w : PortLeaf). w.name) are.0.is ∙ s.2.name;
        kind = ap (λ (w : PortLeaf). w.kind) are.0.is ∙ s.2.kind;
        width = ap (λ (w : PortLeaf). w.width) are.0.is ∙ s.2.width;
      } in
      (s.0 ∷ rest.0, (s.1, rest.1), (one, rest.2))

  chosen : (names : List (List ℕ)) (seen : List ℕ) (vars : List PortLeaf) (leaves : List Standing) → AreNumbersOf net names seen → AllZip (IsLeafAt net.leaves) seen vars → AllZip Stands seen leaves → AreChosen texts design all names vars leaves
  chosen [] seen vars leaves are at stand =
      let default : AllZip Stands seen (shown texts design net serves) = subst (λ l. AllZip Stands l (shown texts design net serves)) (sym are) (shown_stand texts design net serves) in
      ap (map flat_of) (zip_same Stands (λ x y z e f. some_same (sym e ∙ f)) seen leaves (shown texts design net serves) stand default) ∙ shown_flat texts design net serves
  chosen (name ∷ names) seen vars leaves are at stand =
      zip_join (λ x word. IsFirstNamed net word x) (IsLeafAt net.leaves) (λ word var. IsFirstOfName texts all word var.leaf)
      (λ x word var f l. subst (IsFirstOfName texts all word) (sym (ap (λ (w : PortLeaf). w.leaf) l.is)) (first_in_circuit texts design net serves word x f))
      seen (name ∷ names) vars (zip_turn (IsFirstNamed net) (name ∷ names) seen are) at

-- The text of a run is the dump of the leaves that are watched.
pub dump_of_run : (texts : Texts) (design : Design) (ordered : Ordered) (ports : Ports) (stimulus : Stimulus) (seen : List ℕ) (names : List (List ℕ)) (top : List ℕ) (vars : List PortLeaf) → Serves texts design ordered.net
    → IsPlanned ordered ports stimulus → top ≡ text_of texts design.main → AreNumbersOf ordered.net names seen → AllZip (IsLeafAt ordered.net.leaves) seen vars
    → (bytes : List ℕ) → IsRunText ordered.net seen first_state (given_from stimulus 0 stimulus.cycles) (dump_telling top vars) 0 bytes → IsVcdText texts design names stimulus bytes
dump_of_run texts design ordered ports stimulus seen names top vars serves planned called are at bytes of =
    let net = ordered.net in
    let s = standings texts design net serves seen vars at in
    let shaped : AreRows vars of.rows = rows_are net planned.net ordered.sequence planned.order seen vars at of.run in
    record {
      all = all texts design net serves;
      of_run = of_run texts design net serves;
      vars = vars;
      leaves = s.0;
      are = record { chosen = chosen texts design net serves names seen vars s.0 are at s.1; each = s.2 };
      rows = of.rows;
      shaped = shaped;
      trace = watched_traces texts design net serves.of serves.lists serves.has serves.typed ordered.sequence planned.order tree.first_state first_state (firsts_match texts design net serves) (first_within net)
          (all_inputs design stimulus) (given_from stimulus 0 stimulus.cycles) (all_given texts design net serves ports planned.fed stimulus planned.formed (range_with_len 0 stimulus.cycles)) seen s.0 s.1 of.run;
      is = of.is ∙ (told_text top vars of.rows shaped ∙ ap (λ t. vcd_text t vars of.rows) called);
    }
