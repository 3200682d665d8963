-- The trace of a run as a text of rows.
use Rattle.std.proofs.Common.{◌≡◌, ℕ, ◌+◌, Bool, true, false, List, [], ◌∷◌, ◌++◌, map, slice_get, Option, Some, None, refl, sym, subst, ap, ap₂, ◌∙◌, append-nil, if◌then◌else◌, arith}
use Rattle.std.specs.Prelude.{filter_map}
use Rattle.std.specs.List.{range_with_len, cons_option}
use Rattle.bit_words.specs.declared.value.Value.{Value}
use Rattle.fir_tree.specs.LeafNames.{Texts}
use Rattle.fir_meaning.specs.Components.{Design}
use Rattle.ground_net.specs.declared.net.Leaf.{Leaf}
use Rattle.ground_net.specs.declared.net.Net.{Net}
use Rattle.ground_net.specs.declared.net.Ports.{Ports}
use Rattle.ground_net.specs.declared.net.PortLeaf.{PortLeaf}
use Rattle.ground_net.specs.declared.net.Ordered.{Ordered}
use Rattle.ground_net.specs.Watching.{is_shown, port_leaf, told_where, watched}
use Rattle.ground_net.specs.Cycles.{first_state}
use Rattle.net_laws.specs.Runs.{Run}
use Rattle.net_laws.specs.Serves.{Serves}
use Rattle.stimulus.specs.declared.stimulus.Stimulus.{Stimulus}
use Rattle.trace_print.specs.Trace.{header_of, trace_line_of}
use Rattle.row_texts.specs.Tellings.{told_of, rows_text, text_of_told}
use Rattle.circuit_run.specs.Traces.{IsTraceText}
use Rattle.circuit_run.specs.NetRuns.{watch, given_in, given_from, lines_from, IsPlanned}
use Rattle.circuit_run.proofs.Lists.{some_same, none_some}
use Rattle.circuit_run.proofs.Traces.{text_of_lines}
use Rattle.crew_run.specs.RunTexts.{IsRunText}
use Rattle.crew_run.proofs.Progressing.{none_told, begun_text}
use Rattle.crew_run.specs.TraceTexts.{name_of_leaf, names_at, telling_of_names, trace_telling}

-- no row ends it
pub told_all : (rows : List (List Value)) → told_of (λ row. false) rows ≡ rows
told_all [] = refl
told_all (row ∷ rows) = ap (λ l. row ∷ l) (told_all rows)

pub lines_are : (names : List (List ℕ)) (first : ℕ) (before : Option (List Value)) (rows : List (List Value)) → rows_text (telling_of_names names) first before rows ≡ lines_from first rows
lines_are names first before [] = refl
lines_are names first before (row ∷ rows) = ap (λ l. trace_line_of first row ++ l) (lines_are names (first + 1) (Some row) rows)

-- the names of the leaves that are watched where no others are named
module _ (net : Net) where
  by_role : (b : Bool) (x : ℕ) (leaf : Leaf) (p : PortLeaf) → slice_get net.leaves x ≡ Some leaf → (if b then Some (port_leaf x leaf) else None) ≡ Some p → name_of_leaf (slice_get net.leaves p.leaf) ≡ p.name
  by_role true x leaf p at e =
      let same : port_leaf x leaf ≡ p = some_same e in
      subst (λ (q : PortLeaf). name_of_leaf (slice_get net.leaves q.leaf) ≡ q.name) same (ap name_of_leaf at)
  by_role false x leaf p at e = none_some e

  by_leaf : (o : Option Leaf) (x : ℕ) (p : PortLeaf) → slice_get net.leaves x ≡ o → told_where is_shown x o ≡ Some p → name_of_leaf (slice_get net.leaves p.leaf) ≡ p.name
  by_leaf None x p q e = none_some e
  by_leaf (Some leaf) x p q e = by_role (is_shown leaf.role) x leaf p q e

  abbrev told : ℕ → Option PortLeaf
  told x = told_where is_shown x (slice_get net.leaves x)

  names_in : (xs : List ℕ) → names_at net.leaves (map (λ (p : PortLeaf). p.leaf) (filter_map told xs)) ≡ map (λ (p : PortLeaf). p.name) (filter_map told xs)
  names_in [] = refl
  names_in (x ∷ xs) = by (told x) refl (names_in xs) where
    by : (o : Option PortLeaf) → told x ≡ o → names_at net.leaves (map (λ (p : PortLeaf). p.leaf) (filter_map told xs)) ≡ map (λ (p : PortLeaf). p.name) (filter_map told xs)
        → names_at net.leaves (map (λ (p : PortLeaf). p.leaf) (cons_option o (filter_map told xs))) ≡ map (λ (p : PortLeaf). p.name) (cons_option o (filter_map told xs))
    by None e later = later
    by (Some p) e later = ap₂ (λ n l. n ∷ l) (by_leaf (slice_get net.leaves x) x p refl e) later

  pub names_are : names_at net.leaves (watch net) ≡ map (λ (p : PortLeaf). p.name) (watched net)
  names_are = names_in (range_with_len 0 net.ports)

-- The text of such a run is the trace of the circuit.
pub trace_of_run : (texts : Texts) (design : Design) (ordered : Ordered) (ports : Ports) (stimulus : Stimulus) (seen : List ℕ) → Serves texts design ordered.net → IsPlanned ordered ports stimulus → seen ≡ watch ordered.net
    → (bytes : List ℕ) → IsRunText ordered.net seen first_state (given_from stimulus 0 stimulus.cycles) (trace_telling ordered.net seen) 0 bytes → IsTraceText texts design stimulus bytes
trace_of_run texts design ordered ports stimulus seen serves planned default bytes of =
    let net = ordered.net in
    let names = names_at net.leaves seen in
    let t = telling_of_names names in
    let lines = lines_from 0 of.rows in
    let run = subst (λ w. Run net w first_state (given_from stimulus 0 stimulus.cycles) of.rows) default of.run in
    let names_default : names ≡ map (λ (p : PortLeaf). p.name) (watched net) = ap (names_at net.leaves) default ∙ names_are net in
    let text : bytes ≡ header_of (map (λ (p : PortLeaf). p.name) (watched net)) ++ lines =
    of.is ∙ (ap (text_of_told t 0) (told_all of.rows) ∙ ap₂ (λ h l. h ++ l) (ap header_of names_default) (append-nil (rows_text t 0 None of.rows) ∙ lines_are names 0 None of.rows)) in
    subst (IsTraceText texts design stimulus) (sym text)
    (text_of_lines texts design net serves ordered.sequence planned.order ports planned.fed stimulus planned.formed lines (record { rows = of.rows; run = run; are = refl }))

-- There is such a text.
pub some_text : (ordered : Ordered) (ports : Ports) (stimulus : Stimulus) (seen : List ℕ) → IsPlanned ordered ports stimulus
    → (bytes : List ℕ) × IsRunText ordered.net seen first_state (given_from stimulus 0 stimulus.cycles) (trace_telling ordered.net seen) 0 bytes
some_text ordered ports stimulus seen planned =
    let begun = begun_text ordered.net seen first_state (given_in stimulus) (trace_telling ordered.net seen) 0 ordered.sequence planned.net planned.order 0 stimulus.cycles (omega arith) [] first_state
    (none_told ordered.net seen first_state (given_in stimulus) (trace_telling ordered.net seen) 0) in
    (begun.0, begun.1)
