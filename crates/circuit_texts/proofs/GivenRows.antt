-- Rows that begin with any values match what the inputs are given.
use Rattle.std.proofs.Common.{◌≡◌, ℕ, ◌+◌, ◌<◌, List, [], length, slice_get, Option, Some, None, option_map, refl, sym, ap, ap₂, ◌∙◌, subst, arith}
use Rattle.std.specs.List.{enumerate_from}
use Rattle.std.proofs.lemmas.List.FromFn.{length-map-range_with_len, get_or-map-range_with_len}
use Rattle.std.proofs.lemmas.Option.{slice_get-map, get_or_from_slice_get, slice_get_within}
use Rattle.bit_words.specs.declared.value.Value.{Value}
use Rattle.bit_words.specs.Values.{integer_of}
use Rattle.ground_net.specs.declared.net.Leaf.{Leaf}
use Rattle.ground_net.specs.declared.net.Net.{Net}
use Rattle.ground_net.specs.declared.net.Ports.{Ports}
use Rattle.ground_net.specs.declared.net.PortLeaf.{PortLeaf}
use Rattle.ground_net.specs.declared.net.Role.TheVariants as role
use Rattle.ground_net.specs.Watching.{inputs, port_leaf, AreValuesOf}
use Rattle.ground_net.specs.Shapes.{shaped}
use Rattle.ground_net.specs.Nets.{IsNet}
use Rattle.partition_code.specs.FromNets.{MatchInputs}
use Rattle.crew_workers.specs.Codes.{row_at}
use Rattle.stimulus.specs.declared.stimulus.Stimulus.{Stimulus}
use Rattle.stimulus.specs.declared.stimulus.Setting.{Setting}
use Rattle.stimulus.specs.Stimuli.{IsFormed}
use Rattle.stimulus.specs.Rows.{last_set, value_or}
use Rattle.circuit_texts.specs.StimulusParts.{row_from, rows_from}
use Rattle.circuit_texts.proofs.Formed.{row_values}
use Rattle.circuit_run.specs.NetRuns.{integer_set_or}
use Rattle.circuit_run.proofs.Lists.{get_enumerate, zip_left}
use Rattle.circuit_run.proofs.Fed.{input_at}
use Rattle.circuit_texts.specs.StateTexts.{integer_or_zero}
use Rattle.crew_run.specs.Runs.{MatchGiven}
use Rattle.circuit_texts.specs.Going.{given_behind}

abbrev IsOfLeaf : PortLeaf → Value → Type 0
IsOfLeaf leaf v = (v.kind ≡ leaf.kind) × (v.width ≡ leaf.width)

-- the value of a setting or of the start
set_is : (o : Option Setting) (v : Value) → integer_of (value_or o v) ≡ integer_set_or (integer_of v) o
set_is None v = refl
set_is (Some s) v = refl

-- the value that stands in a row
item_is : (start : List Value) (settings : List Setting) (cycle n : ℕ) (v : Value) → slice_get start n ≡ Some v → slice_get (row_from start settings cycle) n ≡ Some (value_or (last_set settings cycle n) v)
item_is start settings cycle n v there =
    let plain : 0 + n ≡ n = omega arith in
    slice_get-map (λ (e : ℕ × Value). value_or (last_set settings cycle e.0) e.1) (enumerate_from 0 start) n
    ∙ (ap (option_map (λ (e : ℕ × Value). value_or (last_set settings cycle e.0) e.1)) (get_enumerate 0 start n ∙ ap (option_map {U = ℕ × Value} (λ p. (0 + n, p))) there)
    ∙ ap (λ m. Some (value_or (last_set settings cycle m) v)) plain)

pub rows_long : (start : List Value) (settings : List Setting) (first count : ℕ) → length (rows_from start settings first count) ≡ count
rows_long start settings first count = length-map-range_with_len (row_from start settings) first count

pub row_is : (start : List Value) (settings : List Setting) (first count c : ℕ) → c < count → row_at (rows_from start settings first count) c ≡ row_from start settings (first + c)
row_is start settings first count c lt = get_or-map-range_with_len (row_from start settings) first count c (first + c) [] lt refl

module _ (net : Net) (well : IsNet net) (ports : Ports) (fed : ports.inputs ≡ inputs net) (stimulus : Stimulus) (formed : IsFormed ports stimulus) (start : List Value) (values : AreValuesOf ports.inputs start) where
  -- The value of an input in a cycle.
  record Has (cycle n : ℕ) (leaf : Leaf) : Type 0 where
    value : Value
    there : slice_get (row_from start stimulus.settings cycle) n ≡ Some value
    kind : value.kind ≡ leaf.kind
    width : value.width ≡ leaf.width
    given : integer_of value ≡ given_behind start stimulus cycle n

  has : (cycle x n : ℕ) (leaf : Leaf) → slice_get net.leaves x ≡ Some leaf → leaf.role ≡ role.Input n → Has cycle n leaf
  has cycle x n leaf there is =
      let at : slice_get ports.inputs n ≡ Some (port_leaf x leaf) = ap (λ l. slice_get l n) fed ∙ input_at net well x n leaf there is in
      let begun = zip_left IsOfLeaf ports.inputs start values n (port_leaf x leaf) at in
      let row = row_from start stimulus.settings cycle in
      let v = value_or (last_set stimulus.settings cycle n) begun.0 in
      let item = item_is start stimulus.settings cycle n begun.0 begun.1 in
      let now = zip_left IsOfLeaf ports.inputs row (row_values ports stimulus start cycle formed values) n (port_leaf x leaf) at in
      let same : Some now.0 ≡ Some v = sym now.1 ∙ item in
      let one : now.0 ≡ v = cc in
      record {
        value = v;
        there = item;
        kind = ap (λ (w : Value). w.kind) (sym one) ∙ now.2.0;
        width = ap (λ (w : Value). w.width) (sym one) ∙ now.2.1;
        given = set_is (last_set stimulus.settings cycle n) begun.0 ∙ ap (λ o. integer_set_or (integer_or_zero o) (last_set stimulus.settings cycle n)) (sym begun.1);
      }

  -- The row of a cycle has the values that are given.
  pub row_matches : (cycle : ℕ) → MatchInputs net (row_from start stimulus.settings cycle) (given_behind start stimulus cycle)
  row_matches cycle x n leaf there is =
      let h = has cycle x n leaf there is in
      (h.value, h.there, ap₂ shaped h.kind h.width, h.given)

  pub rows_match : (first count : ℕ) → MatchGiven net (λ c. given_behind start stimulus (first + c)) (rows_from start stimulus.settings first count)
  rows_match first count = record {
    each = λ c row e.
        let long = rows_long start stimulus.settings first count in
        let lt : c < count = subst (λ n. c < n) long (slice_get_within (rows_from start stimulus.settings first count) c row e) in
        let is : row_from start stimulus.settings (first + c) ≡ row = sym (row_is start stimulus.settings first count c lt) ∙ get_or_from_slice_get (rows_from start stimulus.settings first count) c row [] e in
        subst (λ r. MatchInputs net r (given_behind start stimulus (first + c))) is (row_matches (first + c));
  }
