-- The first fault of what a line says, or that it has none.
use Rattle.std.proofs.Common.{◌≡◌, ℕ, ◌-◌, ◌<◌, ◌≤◌, Bool, true, false, List, [], ◌∷◌, length, get_or, Some, Ok, Err, Option, refl, sym, ap, ap₂, ◌∙◌, subst, arith, inl, inr}
use Rattle.std.specs.Prelude.{None, slice_get, Contains}
use Rattle.std.specs.List.{AllZip}
use Rattle.place_text.specs.Places.{place}
use Rattle.place_text.specs.Order.{Precedes}
use Rattle.place_text.specs.First.{IsFirst}
use Rattle.bit_words.specs.declared.value.Value.{Value}
use Rattle.bit_words.specs.declared.number.Base.TheVariants.{Decimal}
use Rattle.bit_words.specs.declared.number.Number.{Number}
use Rattle.bit_words.specs.Numbers.{WritesDigits, IsNumber, integer_of_number}
use Rattle.bit_words.specs.Values.{InRange}
use Rattle.bit_words.proofs.Digits.{digits_once}
use Rattle.bit_words.proofs.Readings.{sign_once, number_once}
use Rattle.ground_net.specs.declared.net.Ports.{Ports}
use Rattle.ground_net.specs.declared.net.PortLeaf.{PortLeaf}
use Rattle.stimulus.specs.declared.fault.StimFault.{StimFault}
use Rattle.stimulus.specs.declared.fault.StimFault.TheVariants.{CycleOrder, CycleRange, LeafUnknown, NotInput, LeafTwice, ValueRange}
use Rattle.stimulus.specs.declared.stimulus.Setting.{Setting}
use Rattle.stimulus.specs.Words.{Word}
use Rattle.stimulus.specs.Forms.{Said, Says}
use Rattle.stimulus.specs.Faults.{is_leaf, input_of, IsLineFault, cycle_order, cycle_range, leaf_unknown, not_input, leaf_twice, value_range, place_of, rank_of}
use Rattle.stimulus.specs.Stimuli.{Sets}
use Rattle.stimulus.specs.declared.forms.SettingLine.{SettingLine}
use Rattle.stimulus.specs.Reading.{Knows, IsSound, IsSaid, IsInside}
use Rattle.stimulus.specs.Judging.{AnswersCycle, AnswersLeaf, AnswersValue}
use Rattle.stimulus.proofs.Lists.{zip_length, zip_left, zip_right, contains_at, at_contains}
use Rattle.stimulus.proofs.Ordering.{not_later}
use Rattle.stimulus.proofs.Finding.{position_at}

same_words : (a b c d e f : Word) → a ∷ b ∷ c ∷ [] ≡ d ∷ e ∷ f ∷ [] → (a ≡ d) × (b ≡ e) × (c ≡ f)
same_words a b c d e f h = (cc, cc, cc)

-- a line says one thing
pub says_once : (line : List Word) (said other : Said) → Says line said → Says line other → said ≡ other
says_once line said other s o =
    let words = same_words _ _ _ _ _ _ (sym s.words ∙ o.words) in
    let cycle = digits_once Decimal other.cycle_word.bytes said.cycle other.cycle (subst (λ (w : Word). WritesDigits Decimal w.bytes said.cycle) words.0 s.cycle) o.cycle in
    let here = subst (λ (w : Word). IsNumber w.bytes said.number.negative said.number.magnitude) words.2 s.number in
    let sign = sign_once other.value_word.bytes said.number.negative other.number.negative said.number.magnitude other.number.magnitude here o.number in
    let magnitude = number_once other.value_word.bytes said.number.negative other.number.negative said.number.magnitude other.number.magnitude here o.number in
    let number : said.number ≡ other.number = ap₂ (λ n m. record { negative = n; magnitude = m }) sign magnitude in
    ap₂ (λ (ws : Word × Word × Word) (n : ℕ × Number). record { cycle_word = ws.0; leaf = ws.1; value_word = ws.2; cycle = n.0; number = n.1 })
    (ap₂ (λ (a : Word) (bc : Word × Word). (a, bc.0, bc.1)) words.0 (ap₂ (λ (b c : Word). (b, c)) words.1 words.2)) (ap₂ (λ (m : ℕ) (n : Number). (m, n)) cycle number)

-- the words of a line stand one behind the other in the text
pub record IsOrdered (text : List ℕ) (said : Said) : Type 0 where
  pub leaf : said.cycle_word.at < said.leaf.at
  pub value : said.leaf.at < said.value_word.at
  pub within : said.value_word.at ≤ length text

pub ordered_from : (text : List ℕ) (line : SettingLine) (said : Said) → IsSaid line said → IsInside text line → IsOrdered text said
ordered_from text line said is inside =
    let a = ap (λ (w : Word). w.at) is.cycle_word in
    let b = ap (λ (w : Word). w.at) is.leaf in
    let v = ap (λ (w : Word). w.at) is.value_word in
    record { leaf = omega (arith, inside.cycle_word, a, b); value = omega (arith, inside.leaf, b, v); within = omega (arith, inside.value_word, inside.within, v) }

module _
    (text : List ℕ) (ports : Ports) (cycles last : ℕ) (set_in : List (Option ℕ)) (settings : List Setting) (before : List (List Word)) (said : Said)
    (order : IsOrdered text said) (knows : Knows ports cycles last set_in settings) (zip : AllZip (Sets ports) before settings) where
  -- no line before is of a later cycle
  in_order : last ≤ said.cycle → (line : List Word) (earlier : Said) → Contains before line → Says line earlier → earlier.cycle ≤ said.cycle
  in_order le line earlier c says =
      let k = contains_at before line c in
      let s = zip_right (Sets ports) before settings k.0 line zip k.1 in
      let same = ap (λ (t : Said). t.cycle) (says_once line s.2.said earlier s.2.says says) in
      let note = knows.noted s.0 (at_contains settings k.0 s.0 s.1) in
      omega (arith, le, s.2.cycle, same, note.2, note.3)

  true_false : {b : Bool} → b ≡ true → b ≡ false → ⊥
  true_false t f = cc

  some_none : {o : Option ℕ} {n : ℕ} → o ≡ Some n → o ≡ None → ⊥
  some_none e f = cc

  no_order : last ≤ said.cycle → (line : List Word) (earlier : Said) → slice_get before (length before - 1) ≡ Some line → Says line earlier → said.cycle < earlier.cycle → ⊥
  no_order le line earlier at says less = let ge = in_order le line earlier (at_contains before (length before - 1) line at) says in omega (arith, ge, less)

  -- a setting of the input in the cycle was noted
  no_twice : last ≤ said.cycle → (input : ℕ) → input_of ports said.leaf.bytes ≡ Some input → ¬ (slice_get set_in input ≡ Some (Some said.cycle))
      → (line : List Word) (earlier : Said) → Contains before line → Says line earlier → earlier.cycle ≡ said.cycle → earlier.leaf.bytes ≡ said.leaf.bytes → ⊥
  no_twice le input named fresh line earlier c says cycle leaf =
      let k = contains_at before line c in
      let s = zip_right (Sets ports) before settings k.0 line zip k.1 in
      let same = says_once line s.2.said earlier s.2.says says in
      let note = knows.noted s.0 (at_contains settings k.0 s.0 s.1) in
      let its : s.0.cycle ≡ said.cycle = s.2.cycle ∙ ap (λ (t : Said). t.cycle) same ∙ cycle in
      let now : note.0 ≡ said.cycle = omega (arith, le, its, note.2, note.3) in
      let number : Some s.0.input ≡ Some input = sym s.2.input ∙ ap (λ (t : Said). input_of ports t.leaf.bytes) same ∙ ap (input_of ports) leaf ∙ named in
      let here : s.0.input ≡ input = cc in
      fresh (ap (slice_get set_in) (sym here) ∙ note.1 ∙ ap (λ n. Some (Some n)) now)

  is_order : said.cycle < last → IsLineFault text ports cycles before said (CycleOrder (place text said.cycle_word.at))
  is_order less =
      let late = knows.latest (omega (arith, less)) in
      let beside = zip_left (Sets ports) before settings (length settings - 1) late.0 zip late.1 in
      let size = zip_length (Sets ports) before settings zip in
      let at : slice_get before (length before - 1) ≡ Some beside.0 = ap (λ n. slice_get before (n - 1)) size ∙ beside.1 in
      let sets = beside.2 in
      cycle_order beside.0 sets.said at sets.says (omega (arith, less, late.2, sets.cycle))

  is_twice : (input cycle : ℕ) → cycle ≡ said.cycle → input_of ports said.leaf.bytes ≡ Some input → slice_get set_in input ≡ Some (Some cycle) → IsLineFault text ports cycles before said (LeafTwice (place text said.leaf.at))
  is_twice input cycle now named set =
      let s = knows.set input cycle set in
      let k = contains_at settings s.0 s.1 in
      let beside = zip_left (Sets ports) before settings k.0 s.0 zip k.1 in
      let sets = beside.2 in
      let leaf = sets.of_input.leaf in
      let its = position_at ports.inputs sets.said.leaf.bytes s.0.input leaf sets.input in
      let mine = position_at ports.inputs said.leaf.bytes input leaf named in
      let same : sets.said.leaf.bytes ≡ said.leaf.bytes = its.1 ∙ ap (λ n. (get_or ports.inputs n leaf).name) s.3 ∙ sym mine.1 in
      leaf_twice beside.0 sets.said (at_contains before k.0 beside.0 beside.1) sets.says (sym sets.cycle ∙ s.2 ∙ now) same

  order_first : said.cycle < last → IsFirst place_of rank_of (IsLineFault text ports cycles before said) (CycleOrder (place text said.cycle_word.at))
  order_first late = record { is = is_order late; first = first }
    where
      first : (other : StimFault) → IsLineFault text ports cycles before said other → Precedes place_of rank_of (CycleOrder (place text said.cycle_word.at)) other
      first other (cycle_order line earlier at says less) = not_later text said.cycle_word.at 2 said.cycle_word.at 2 (omega (arith, order.leaf, order.value, order.within)) (inr (refl, omega arith))
      first other (cycle_range ge) = not_later text said.cycle_word.at 2 said.cycle_word.at 3 (omega (arith, order.leaf, order.value, order.within)) (inr (refl, omega arith))
      first other (leaf_unknown unknown) = not_later text said.cycle_word.at 2 said.leaf.at 4 (omega (arith, order.leaf, order.value, order.within)) (inl (omega (arith, order.leaf, order.value)))
      first other (not_input known none) = not_later text said.cycle_word.at 2 said.leaf.at 5 (omega (arith, order.leaf, order.value, order.within)) (inl (omega (arith, order.leaf, order.value)))
      first other (leaf_twice line earlier c says cycle leaf) = not_later text said.cycle_word.at 2 said.leaf.at 6 (omega (arith, order.leaf, order.value, order.within)) (inl (omega (arith, order.leaf, order.value)))
      first other (value_range n leaf named at not_held) = not_later text said.cycle_word.at 2 said.value_word.at 7 (omega (arith, order.leaf, order.value, order.within)) (inl (omega (arith, order.leaf, order.value)))

  range_first : last ≤ said.cycle → cycles ≤ said.cycle → IsFirst place_of rank_of (IsLineFault text ports cycles before said) (CycleRange (place text said.cycle_word.at))
  range_first le past = record { is = cycle_range past; first = first }
    where
      first : (other : StimFault) → IsLineFault text ports cycles before said other → Precedes place_of rank_of (CycleRange (place text said.cycle_word.at)) other
      first other (cycle_order line earlier at says less) = absurd (no_order le line earlier at says less)
      first other (cycle_range ge) = not_later text said.cycle_word.at 3 said.cycle_word.at 3 (omega (arith, order.leaf, order.value, order.within)) (inr (refl, omega arith))
      first other (leaf_unknown unknown) = not_later text said.cycle_word.at 3 said.leaf.at 4 (omega (arith, order.leaf, order.value, order.within)) (inl (omega (arith, order.leaf, order.value)))
      first other (not_input known none) = not_later text said.cycle_word.at 3 said.leaf.at 5 (omega (arith, order.leaf, order.value, order.within)) (inl (omega (arith, order.leaf, order.value)))
      first other (leaf_twice line earlier c says cycle leaf) = not_later text said.cycle_word.at 3 said.leaf.at 6 (omega (arith, order.leaf, order.value, order.within)) (inl (omega (arith, order.leaf, order.value)))
      first other (value_range n leaf named at not_held) = not_later text said.cycle_word.at 3 said.value_word.at 7 (omega (arith, order.leaf, order.value, order.within)) (inl (omega (arith, order.leaf, order.value)))

  unknown_first : last ≤ said.cycle → said.cycle < cycles → is_leaf ports said.leaf.bytes ≡ false → IsFirst place_of rank_of (IsLineFault text ports cycles before said) (LeafUnknown (place text said.leaf.at))
  unknown_first le below missing = record { is = leaf_unknown missing; first = first }
    where
      first : (other : StimFault) → IsLineFault text ports cycles before said other → Precedes place_of rank_of (LeafUnknown (place text said.leaf.at)) other
      first other (cycle_order line earlier at says less) = absurd (no_order le line earlier at says less)
      first other (cycle_range ge) = absurd (omega (arith, below, ge))
      first other (leaf_unknown unknown) = not_later text said.leaf.at 4 said.leaf.at 4 (omega (arith, order.leaf, order.value, order.within)) (inr (refl, omega arith))
      first other (not_input known none) = not_later text said.leaf.at 4 said.leaf.at 5 (omega (arith, order.leaf, order.value, order.within)) (inr (refl, omega arith))
      first other (leaf_twice line earlier c says cycle leaf) = not_later text said.leaf.at 4 said.leaf.at 6 (omega (arith, order.leaf, order.value, order.within)) (inr (refl, omega arith))
      first other (value_range n leaf named at not_held) = not_later text said.leaf.at 4 said.value_word.at 7 (omega (arith, order.leaf, order.value, order.within)) (inl (omega (arith, order.leaf, order.value)))

  not_input_first : last ≤ said.cycle → said.cycle < cycles → is_leaf ports said.leaf.bytes ≡ true → input_of ports said.leaf.bytes ≡ None → IsFirst place_of rank_of (IsLineFault text ports cycles before said) (NotInput (place text said.leaf.at))
  not_input_first le below among sink = record { is = not_input among sink; first = first }
    where
      first : (other : StimFault) → IsLineFault text ports cycles before said other → Precedes place_of rank_of (NotInput (place text said.leaf.at)) other
      first other (cycle_order line earlier at says less) = absurd (no_order le line earlier at says less)
      first other (cycle_range ge) = absurd (omega (arith, below, ge))
      first other (leaf_unknown unknown) = absurd (true_false among unknown)
      first other (not_input known none) = not_later text said.leaf.at 5 said.leaf.at 5 (omega (arith, order.leaf, order.value, order.within)) (inr (refl, omega arith))
      first other (leaf_twice line earlier c says cycle leaf) = not_later text said.leaf.at 5 said.leaf.at 6 (omega (arith, order.leaf, order.value, order.within)) (inr (refl, omega arith))
      first other (value_range n leaf named at not_held) = not_later text said.leaf.at 5 said.value_word.at 7 (omega (arith, order.leaf, order.value, order.within)) (inl (omega (arith, order.leaf, order.value)))

  twice_first : last ≤ said.cycle → said.cycle < cycles → is_leaf ports said.leaf.bytes ≡ true → (input cycle : ℕ) → cycle ≡ said.cycle → input_of ports said.leaf.bytes ≡ Some input → slice_get set_in input ≡ Some (Some cycle) → IsFirst place_of rank_of (IsLineFault text ports cycles before said) (LeafTwice (place text said.leaf.at))
  twice_first le below among input now same named set = record { is = is_twice input now same named set; first = first }
    where
      first : (other : StimFault) → IsLineFault text ports cycles before said other → Precedes place_of rank_of (LeafTwice (place text said.leaf.at)) other
      first other (cycle_order line earlier at says less) = absurd (no_order le line earlier at says less)
      first other (cycle_range ge) = absurd (omega (arith, below, ge))
      first other (leaf_unknown unknown) = absurd (true_false among unknown)
      first other (not_input known none) = absurd (some_none named none)
      first other (leaf_twice line earlier c says cycle leaf) = not_later text said.leaf.at 6 said.leaf.at 6 (omega (arith, order.leaf, order.value, order.within)) (inr (refl, omega arith))
      first other (value_range n leaf named at not_held) = not_later text said.leaf.at 6 said.value_word.at 7 (omega (arith, order.leaf, order.value, order.within)) (inl (omega (arith, order.leaf, order.value)))

  value_first : last ≤ said.cycle → said.cycle < cycles → is_leaf ports said.leaf.bytes ≡ true → (input : ℕ) → input_of ports said.leaf.bytes ≡ Some input → ¬ (slice_get set_in input ≡ Some (Some said.cycle)) → (holder : PortLeaf) → slice_get ports.inputs input ≡ Some holder → ¬ (InRange holder.kind holder.width (integer_of_number said.number)) → IsFirst place_of rank_of (IsLineFault text ports cycles before said) (ValueRange (place text said.value_word.at))
  value_first le below among input named fresh holder there' fails = record { is = value_range input holder named there' fails; first = first }
    where
      first : (other : StimFault) → IsLineFault text ports cycles before said other → Precedes place_of rank_of (ValueRange (place text said.value_word.at)) other
      first other (cycle_order line earlier at says less) = absurd (no_order le line earlier at says less)
      first other (cycle_range ge) = absurd (omega (arith, below, ge))
      first other (leaf_unknown unknown) = absurd (true_false among unknown)
      first other (not_input known none) = absurd (some_none named none)
      first other (leaf_twice line earlier c says cycle leaf) = absurd (no_twice le input named fresh line earlier c says cycle leaf)
      first other (value_range n leaf named at not_held) = not_later text said.value_word.at 7 said.value_word.at 7 (omega (arith, order.leaf, order.value, order.within)) (inr (refl, omega arith))

  -- what is answered is the first fault
  pub cycle_first : (fault : StimFault) → AnswersCycle text cycles last said (Err fault) → IsFirst place_of rank_of (IsLineFault text ports cycles before said) fault
  cycle_first fault (inl h) = subst (IsFirst place_of rank_of (IsLineFault text ports cycles before said)) (sym h.0) (order_first h.1)
  cycle_first fault (inr h) = subst (IsFirst place_of rank_of (IsLineFault text ports cycles before said)) (sym h.0) (range_first h.1 h.2)

  pub leaf_first : (cycle : ℕ) (fault : StimFault) → AnswersCycle text cycles last said (Ok cycle) → AnswersLeaf text ports set_in cycle said (Err fault) → IsFirst place_of rank_of (IsLineFault text ports cycles before said) fault
  leaf_first cycle fault h (inl a) = subst (IsFirst place_of rank_of (IsLineFault text ports cycles before said)) (sym a.0) (unknown_first h.1 h.2 a.1)
  leaf_first cycle fault h (inr (inl a)) = subst (IsFirst place_of rank_of (IsLineFault text ports cycles before said)) (sym a.0) (not_input_first h.1 h.2 a.1 a.2)
  leaf_first cycle fault h (inr (inr a)) = subst (IsFirst place_of rank_of (IsLineFault text ports cycles before said)) (sym a.0) (twice_first h.1 h.2 a.1 a.2.0 cycle h.0 a.2.1 a.2.2)

  pub value_first_of : (cycle input : ℕ) (holder : PortLeaf) (fault : StimFault) → AnswersCycle text cycles last said (Ok cycle) → AnswersLeaf text ports set_in cycle said (Ok input) → slice_get ports.inputs input ≡ Some holder
      → AnswersValue text holder said (Err fault) → IsFirst place_of rank_of (IsLineFault text ports cycles before said) fault
  value_first_of cycle input holder fault h l at a =
      subst (IsFirst place_of rank_of (IsLineFault text ports cycles before said)) (sym a.0)
      (value_first h.1 h.2 l.0 input l.1 (λ set. l.2 (set ∙ ap (λ n. Some (Some n)) (sym h.0))) holder at a.1)

  -- or there is none
  pub sound_of : (cycle input : ℕ) (holder : PortLeaf) (value : Value) → AnswersCycle text cycles last said (Ok cycle) → AnswersLeaf text ports set_in cycle said (Ok input) → slice_get ports.inputs input ≡ Some holder
      → AnswersValue text holder said (Ok value) → IsSound ports cycles last set_in said (record { cycle = cycle; input = input; value = value })
  sound_of cycle input holder value h l at v = record {
    cycle = h.0;
    in_order = omega (arith, h.0, h.1);
    below = omega (arith, h.0, h.2);
    named = l.0;
    input = l.1;
    of_input = record { leaf = holder; input = at; kind = v.0; width = v.1 };
    fresh = l.2;
    held = (holder, at, v.3);
    value = v.2;
  }

  held_there : (setting : Setting) → IsSound ports cycles last set_in said setting → (n : ℕ) (leaf : PortLeaf) → input_of ports said.leaf.bytes ≡ Some n → slice_get ports.inputs n ≡ Some leaf → InRange leaf.kind leaf.width (integer_of_number said.number)
  held_there setting sound n leaf named at =
      let number : Some n ≡ Some setting.input = sym named ∙ sound.input in
      let same : n ≡ setting.input = cc in
      let leaves : Some leaf ≡ Some sound.held.0 = sym at ∙ ap (slice_get ports.inputs) same ∙ sound.held.1 in
      let one : leaf ≡ sound.held.0 = cc in
      subst (λ (l : PortLeaf). InRange l.kind l.width (integer_of_number said.number)) (sym one) sound.held.2

  -- a sound setting has no fault
  pub no_fault : (setting : Setting) → IsSound ports cycles last set_in said setting → (fault : StimFault) → ¬ (IsLineFault text ports cycles before said fault)
  no_fault setting sound fault fault_is = refused fault fault_is
    where
      le : last ≤ said.cycle
      le = omega (arith, sound.cycle, sound.in_order)

      refused : (fault : StimFault) → ¬ (IsLineFault text ports cycles before said fault)
      refused fault (cycle_order line earlier at says less) = no_order le line earlier at says less
      refused fault (cycle_range ge) = omega (arith, sound.cycle, sound.below, ge)
      refused fault (leaf_unknown unknown) = true_false sound.named unknown
      refused fault (not_input known none) = some_none sound.input none
      refused fault (leaf_twice line earlier c says cycle leaf) = no_twice le setting.input sound.input (λ set. sound.fresh (set ∙ ap (λ n. Some (Some n)) (sym sound.cycle))) line earlier c says cycle leaf
      refused fault (value_range n leaf named at not_held) = not_held (held_there setting sound n leaf named at)
