-- A run of a stimulus is that of its first cycles, and then that of the others, from the state that was saved behind the first ones.
use Rattle.std.proofs.Common.{◌≡◌, ℕ, suc, ◌+◌, ◌<◌, ◌≤◌, ◌^◌, List, [], ◌∷◌, ◌++◌, length, Option, Some, refl, sym, ap, ap₂, ◌∙◌, subst, arith, append_assoc}
use Rattle.std.specs.List.{flat_map, enumerate_from, AllZip}
use Rattle.std.proofs.lemmas.Grind.{flat_map-append}
use Rattle.bit_words.specs.declared.value.Value.{Value}
use Rattle.fir_tree.specs.LeafNames.{Texts}
use Rattle.fir_meaning.specs.Components.{Design}
use Rattle.fir_meaning.specs.States.{State, SameState, Trace}
use Rattle.fir_meaning.proofs.Nexts.{rows_same}
use Rattle.ground_net.specs.declared.net.Ports.{Ports}
use Rattle.ground_net.specs.Watching.{AreValuesOf}
use Rattle.stimulus.specs.declared.stimulus.Stimulus.{Stimulus}
use Rattle.stimulus.specs.Stimuli.{IsFormed}
use Rattle.circuit_texts.specs.StimulusParts.{last_row, first_part, second_part}
use Rattle.circuit_texts.proofs.Formed.{first_formed, row_values}
use Rattle.trace_print.specs.Trace.{header_of}
use Rattle.circuit_run.specs.Ports.{IsPortLeaf, given_parts, ArePortsOf}
use Rattle.circuit_run.specs.Traces.{watched_names, line_of}
use Rattle.circuit_run.proofs.Lists.{enumerate_split}
use Rattle.circuit_run.proofs.Once.{ports_once}
use Rattle.snapshot_text.specs.declared.snapshot.Snapshot.{Snapshot}
use Rattle.snapshot_text.specs.Texts.{most_cycles}
use Rattle.circuit_texts.specs.Held.{IsHeld, IsReadAs, Begins, anew, from_text}
use Rattle.circuit_texts.specs.StateTexts.{all_inputs_from, Reaches, IsResumedText, IsSavedText}
use Rattle.circuit_texts.proofs.Sound.{IsSound, its_net_serves}
use Rattle.circuit_texts.proofs.Runs.{Parted, trace_parts, rows_long, reached_same, same_on}
use Rattle.circuit_texts.proofs.Given.{given_parts_two, given_long}
use Rattle.circuit_texts.proofs.TwoNets.{row_long, its_ports, ports_of}
use Rattle.circuit_texts.proofs.Once.{SameStart, begins_once, resumed_rows}
use Rattle.circuit_texts.proofs.ReadBack.{read_back}

pub read_of : {texts : Texts} {design : Design} {text : List ℕ} {s : State} {snapshot : Snapshot} → Begins texts design (Some text) s snapshot → IsReadAs texts design text s snapshot
read_of (from_text text s snapshot read) = read

pub held_of : {texts : Texts} {design : Design} {begin : Option (List ℕ)} {s : State} {snapshot : Snapshot} → Begins texts design begin s snapshot → IsHeld texts design s snapshot
held_of (anew snapshot held cycle row) = held
held_of (from_text text s snapshot read) = read.held

begun_few : {texts : Texts} {design : Design} {begin : Option (List ℕ)} {s : State} {snapshot : Snapshot} → Begins texts design begin s snapshot → snapshot.cycle ≤ most_cycles
begun_few (anew snapshot held cycle row) = omega (arith, cycle)
begun_few (from_text text s snapshot read) = read.read.few

zip_long : {A B : Type 0} (R : A → B → Type 0) (xs : List A) (ys : List B) → AllZip R xs ys → length xs ≡ length ys
zip_long R [] [] h = refl
zip_long R [] (y ∷ ys) h = absurd h
zip_long R (x ∷ xs) [] h = absurd h
zip_long R (x ∷ xs) (y ∷ ys) h = ap suc (zip_long R xs ys h.1)

module _ (texts : Texts) (design : Design) (sound : IsSound texts design) (ports : Ports) (are : ArePortsOf texts design ports) where
  -- what inputs begin with is a value for each
  begun_values : {begin : Option (List ℕ)} {s : State} {snapshot : Snapshot} → Begins texts design begin s snapshot → AreValuesOf ports.inputs snapshot.inputs
  begun_values {snapshot = snapshot} begins =
      let held = held_of begins in
      let same : ports_of held.net ≡ ports = ports_once texts design (ports_of held.net) ports (its_ports texts design held.net (its_net_serves sound held.net held.of)) are in
      subst (λ (p : Ports). AreValuesOf p.inputs snapshot.inputs) same held.holds.inputs

  enough : (row : List Value) → AreValuesOf ports.inputs row → length (given_parts design) ≤ length row
  enough row h = let parts = zip_long (IsPortLeaf texts) (given_parts design) ports.inputs are.inputs in let long = row_long ports.inputs row h in omega (arith, parts, long)

  module _ (stimulus : Stimulus) (formed : IsFormed ports stimulus) (begin : Option (List ℕ)) (a : ℕ) (within : a ≤ stimulus.cycles) (whole front saved back : List ℕ)
      (w : IsResumedText texts design stimulus begin whole) (f : IsResumedText texts design (first_part a stimulus) begin front)
      (v : IsSavedText texts design (first_part a stimulus) begin saved) (k : IsResumedText texts design (second_part a stimulus) (Some saved) back) where
    abbrev row : List Value
    row = w.snapshot.inputs

    abbrev behind : List Value
    behind = last_row w.snapshot.inputs (first_part a stimulus)

    values : AreValuesOf ports.inputs w.snapshot.inputs
    values = begun_values w.begins

    values_behind : AreValuesOf ports.inputs (last_row w.snapshot.inputs (first_part a stimulus))
    values_behind = row_values ports (first_part a stimulus) w.snapshot.inputs _ (first_formed ports stimulus a formed within) values

    given_two : all_inputs_from design row stimulus ≡ all_inputs_from design row (first_part a stimulus) ++ all_inputs_from design behind (second_part a stimulus)
    given_two = given_parts_two design row stimulus a ports formed within (enough row values) (enough behind values_behind)

    parts : Parted design w.start (all_inputs_from design row (first_part a stimulus)) (all_inputs_from design behind (second_part a stimulus)) w.rows
    parts = trace_parts design w.start (all_inputs_from design row (first_part a stimulus)) (all_inputs_from design behind (second_part a stimulus)) (subst (λ given. Trace design w.start given w.rows) given_two w.trace)

    one : SameStart design w.start f.start w.snapshot f.snapshot
    one = begins_once texts design sound w.begins f.begins

    two : SameStart design w.start v.start w.snapshot v.snapshot
    two = begins_once texts design sound w.begins v.begins

    small : v.saved.cycle < 10 ^ 64
    small = let few = begun_few v.begins in let cycle = v.cycle in let most = formed.few in omega (arith, few, cycle, most, within)

    three : SameStart design v.behind k.start v.saved k.snapshot
    three = read_back texts design sound v.behind k.start v.saved k.snapshot saved small v.is (read_of k.begins)

    reached : SameState design parts.middle v.behind
    reached = reached_same design sound.all sound.has sound.none sound.leaves sound.takes two.states parts.reached
        (subst (λ r. Reaches design v.start (all_inputs_from design r (first_part a stimulus)) v.behind) (sym two.inputs) v.reached)

    first_rows : parts.front ≡ f.rows
    first_rows = resumed_rows texts design sound (first_part a stimulus) begin w.snapshot f.snapshot one parts.first f.trace

    behind_is : behind ≡ k.snapshot.inputs
    behind_is = ap (λ r. last_row r (first_part a stimulus)) two.inputs ∙ (sym v.inputs ∙ three.inputs)

    second_rows : parts.back ≡ k.rows
    second_rows =
        rows_same design sound.all sound.has sound.none sound.leaves sound.takes (same_on design parts.middle v.behind k.start reached three.states) parts.second
        (subst (λ r. Trace design k.start (all_inputs_from design r (second_part a stimulus)) k.rows) (sym behind_is) k.trace)

    first_long : length f.rows ≡ a
    first_long = rows_long design f.trace ∙ given_long design f.snapshot.inputs (first_part a stimulus)

    later : w.snapshot.cycle + length f.rows ≡ k.snapshot.cycle
    later = ap₂ (λ m n. m + n) two.cycles first_long ∙ (sym v.cycle ∙ three.cycles)

    abbrev lines : List ℕ
    lines = flat_map line_of (enumerate_from k.snapshot.cycle k.rows)

    both : flat_map line_of (enumerate_from w.snapshot.cycle w.rows) ≡ flat_map line_of (enumerate_from f.snapshot.cycle f.rows) ++ lines
    both =
        ap (λ rows. flat_map line_of (enumerate_from w.snapshot.cycle rows)) (parts.is ∙ ap₂ (λ x y. x ++ y) first_rows second_rows)
        ∙ (ap (flat_map line_of) (enumerate_split w.snapshot.cycle f.rows k.rows)
        ∙ (flat_map-append line_of (enumerate_from w.snapshot.cycle f.rows) (enumerate_from (w.snapshot.cycle + length f.rows) k.rows)
        ∙ ap₂ (λ m n. flat_map line_of (enumerate_from m f.rows) ++ flat_map line_of (enumerate_from n k.rows)) one.cycles later))

    -- The lines of the first part, and then those of the second one, are those of the whole.
    pub comes_in_two_parts : (lines : List ℕ) × (back ≡ header_of (watched_names texts design) ++ lines) × (whole ≡ front ++ lines)
    comes_in_two_parts = (
      lines,
      k.is,
      w.is
          ∙ (ap (λ l. header_of (watched_names texts design) ++ l) both
          ∙ (sym (append_assoc (header_of (watched_names texts design)) (flat_map line_of (enumerate_from f.snapshot.cycle f.rows)) lines) ∙ ap (λ l. l ++ lines) (sym f.is))),
    )
