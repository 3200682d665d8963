-- There is one text of a resumed run, one of a state that is saved, and one first fault of a text that is no state.
use Rattle.std.proofs.Common.{◌≡◌, ℕ, ◌+◌, List, ◌++◌, map, ℤ, Option, refl, sym, ap, ap₂, ◌∙◌, subst}
use Rattle.std.specs.List.{flat_map, enumerate_from}
use Rattle.place_text.proofs.Ordering.{one_first}
use Rattle.place_text.specs.First.{IsFirst}
use Rattle.bit_words.specs.declared.value.Value.{Value}
use Rattle.bit_words.specs.Values.{integer_of}
use Rattle.fir_tree.specs.LeafNames.{Texts}
use Rattle.fir_meaning.specs.Components.{Design}
use Rattle.fir_meaning.specs.States.{State, SameState, Trace, first_state}
use Rattle.fir_meaning.proofs.Settling.{state_itself}
use Rattle.fir_meaning.proofs.Nexts.{rows_same}
use Rattle.ground_net.specs.Watching.{inputs}
use Rattle.stimulus.specs.declared.stimulus.Stimulus.{Stimulus}
use Rattle.stimulus.specs.Rows.{zero_of}
use Rattle.circuit_texts.specs.StimulusParts.{last_row}
use Rattle.trace_print.specs.Trace.{header_of}
use Rattle.circuit_run.specs.Traces.{watched_names, line_of}
use Rattle.snapshot_text.specs.declared.snapshot.Snapshot.{Snapshot}
use Rattle.snapshot_text.specs.declared.fault.StateFault.{StateFault}
use Rattle.snapshot_text.specs.Cells.{Cell, cells_of}
use Rattle.snapshot_text.specs.Texts.{IsState, state_text}
use Rattle.snapshot_text.specs.Snapshots.{values_of}
use Rattle.snapshot_text.specs.Faults.{IsFault, place_of, rank_of}
use Rattle.snapshot_text.specs.Ranks.{one_each}
use Rattle.snapshot_text.proofs.Texts.{state_once}
use Rattle.circuit_texts.specs.Held.{IsStateText, IsReadAs, Begins, anew, from_text, IsFirstStateFault}
use Rattle.circuit_texts.specs.StateTexts.{all_inputs_from, Reaches, IsResumedText, IsSavedText}
use Rattle.circuit_texts.proofs.Sound.{IsSound, its_net_serves}
use Rattle.circuit_texts.proofs.Runs.{reached_same}
use Rattle.circuit_texts.proofs.TwoNets.{inputs_same, cells_same, integers_same, values_split}

-- Two states with their snapshots are the same: what a run goes on from.
pub record SameStart (design : Design) (s s' : State) (snapshot other : Snapshot) : Type 0 where
  pub states : SameState design s s'
  pub cycles : snapshot.cycle ≡ other.cycle
  pub inputs : snapshot.inputs ≡ other.inputs

module _ (texts : Texts) (design : Design) (sound : IsSound texts design) where
  -- A text is read as one state.
  pub read_once : (text other : List ℕ) (s s' : State) (snapshot snapshot' : Snapshot) → text ≡ other → IsReadAs texts design text s snapshot → IsReadAs texts design other s' snapshot' → SameStart design s s' snapshot snapshot'
  read_once text other s s' snapshot snapshot' e a b =
      let one = its_net_serves sound a.held.net a.held.of in
      let two = its_net_serves sound b.held.net b.held.of in
      let cells : cells_of b.held.net (inputs b.held.net) ≡ cells_of a.held.net (inputs a.held.net) = sym (cells_same texts design a.held.net b.held.net one two) in
      let again : IsState (cells_of a.held.net (inputs a.held.net)) text snapshot'.cycle (values_of b.held.net b.held.state snapshot'.inputs) =
      subst (λ bytes. IsState (cells_of a.held.net (inputs a.held.net)) bytes snapshot'.cycle (values_of b.held.net b.held.state snapshot'.inputs)) (sym e)
      (subst (λ cs. IsState cs other snapshot'.cycle (values_of b.held.net b.held.state snapshot'.inputs)) cells b.read) in
      let both = state_once (cells_of a.held.net (inputs a.held.net)) text snapshot.cycle snapshot'.cycle (values_of a.held.net a.held.state snapshot.inputs) (values_of b.held.net b.held.state snapshot'.inputs) a.read again in
      let split = values_split texts design a.held.net b.held.net one two s s' a.held.state b.held.state a.held.same b.held.same snapshot.inputs snapshot'.inputs a.held.holds.inputs b.held.holds.inputs both.1 in
      record { states = split.1; cycles = both.0; inputs = split.0 }

  -- A run begins in one way.
  pub begins_once : {begin : Option (List ℕ)} {s s' : State} {snapshot snapshot' : Snapshot} → Begins texts design begin s snapshot → Begins texts design begin s' snapshot' → SameStart design s s' snapshot snapshot'
  begins_once (anew snapshot held cycle row) (anew snapshot' held' cycle' row') = record {
    states = state_itself design first_state;
    cycles = cycle ∙ sym cycle';
    inputs = row ∙ (ap (map zero_of) (inputs_same texts design held.net held'.net (its_net_serves sound held.net held.of) (its_net_serves sound held'.net held'.of)) ∙ sym row');
  }
  begins_once (from_text text s snapshot read) (from_text other s' snapshot' read') = read_once text text s s' snapshot snapshot' refl read read'

  -- The text of a state is one.
  pub text_once : (s s' : State) (snapshot snapshot' : Snapshot) (text other : List ℕ) → SameStart design s s' snapshot snapshot' → IsStateText texts design s snapshot text → IsStateText texts design s' snapshot' other → text ≡ other
  text_once s s' snapshot snapshot' text other same a b =
      let one = its_net_serves sound a.held.net a.held.of in
      let two = its_net_serves sound b.held.net b.held.of in
      let integers = integers_same texts design a.held.net b.held.net one two s s' a.held.state b.held.state a.held.same b.held.same same.states in
      let values : values_of a.held.net a.held.state snapshot.inputs ≡ values_of b.held.net b.held.state snapshot'.inputs = ap₂ (λ (row : List Value) (vs : List ℤ). map integer_of row ++ vs) same.inputs integers in
      a.is
      ∙ (ap₂ (λ (cs : List Cell) (vs : List ℤ). state_text cs snapshot.cycle vs) (cells_same texts design a.held.net b.held.net one two) values
      ∙ (ap (λ n. state_text (cells_of b.held.net (inputs b.held.net)) n (values_of b.held.net b.held.state snapshot'.inputs)) same.cycles ∙ sym b.is))

  module _ (stimulus : Stimulus) (begin : Option (List ℕ)) where
    -- Rows from one start are one.
    pub resumed_rows : {s s' : State} (snapshot other : Snapshot) {rows more : List (List ℤ)} → SameStart design s s' snapshot other → Trace design s (all_inputs_from design snapshot.inputs stimulus) rows
        → Trace design s' (all_inputs_from design other.inputs stimulus) more → rows ≡ more
    resumed_rows {s} {s'} snapshot other {rows} {more} same t u =
        rows_same design sound.all sound.has sound.none sound.leaves sound.takes same.states t (subst (λ row. Trace design s' (all_inputs_from design row stimulus) more) (sym same.inputs) u)

    pub resumed_once : (bytes other : List ℕ) → IsResumedText texts design stimulus begin bytes → IsResumedText texts design stimulus begin other → bytes ≡ other
    resumed_once bytes other a b =
        let same = begins_once a.begins b.begins in
        a.is
        ∙ (ap₂ (λ (n : ℕ) (rows : List (List ℤ)). header_of (watched_names texts design) ++ flat_map line_of (enumerate_from n rows)) same.cycles (resumed_rows a.snapshot b.snapshot same a.trace b.trace)
        ∙ sym b.is)

    -- What is reached is one, and so is the text of it.
    pub saved_same : (bytes other : List ℕ) (a : IsSavedText texts design stimulus begin bytes) (b : IsSavedText texts design stimulus begin other) → SameStart design a.behind b.behind a.saved b.saved
    saved_same bytes other a b =
        let same = begins_once a.begins b.begins in
        record {
          states = reached_same design sound.all sound.has sound.none sound.leaves sound.takes same.states a.reached
              (subst (λ row. Reaches design b.start (all_inputs_from design row stimulus) b.behind) (sym same.inputs) b.reached);
          cycles = a.cycle ∙ (ap (λ n. n + stimulus.cycles) same.cycles ∙ sym b.cycle);
          inputs = a.inputs ∙ (ap (λ row. last_row row stimulus) same.inputs ∙ sym b.inputs);
        }

    pub saved_once : (bytes other : List ℕ) → IsSavedText texts design stimulus begin bytes → IsSavedText texts design stimulus begin other → bytes ≡ other
    saved_once bytes other a b = text_once a.behind b.behind a.saved b.saved bytes other (saved_same bytes other a b) a.is b.is

  -- So is the first fault.
  pub fault_once : (text : List ℕ) (fault other : StateFault) → IsFirstStateFault texts design text fault → IsFirstStateFault texts design text other → fault ≡ other
  fault_once text fault other a b =
      one_first place_of rank_of one_each fault other a.first
      (subst (λ cs. IsFirst place_of rank_of (IsFault cs text) other) (sym (cells_same texts design a.net b.net (its_net_serves sound a.net a.of) (its_net_serves sound b.net b.of))) b.first)
