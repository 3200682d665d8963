-- A line that was cut into its words: what it says, and its first fault.
use Rattle.std.proofs.Common.{◌≡◌, ◌≢◌, ℕ, ◌+◌, ◌<◌, ◌≤◌, List, [], ◌∷◌, ◌++◌, length, drop, refl, sym, ap, ap₂, ◌∙◌, subst, arith, inl, inr, ⊎_elim, ℤ}
use Rattle.std.proofs.lemmas.List.{append_assoc, length-append, length-drop, drop-drop, drop_at}
use Rattle.place_text.specs.Places.{place}
use Rattle.bit_words.specs.declared.number.Number.{Number}
use Rattle.bit_words.specs.Numbers.{IsNumber, integer_of_number}
use Rattle.bit_words.specs.Values.{InRange}
use Rattle.bit_words.proofs.Readings.{sign_once, number_once}
use Rattle.place_text.specs.Order.{Precedes}
use Rattle.snapshot_text.specs.declared.fault.StateFault.{StateFault}
use Rattle.snapshot_text.specs.declared.fault.StateFault.TheVariants.{BadLine, NameOrder, ValueRange}
use Rattle.snapshot_text.specs.Cells.{Cell}
use Rattle.snapshot_text.specs.Faults.{Word, Line, lines_from, words_from, Says, IsLineFault, bad_line, other_word, other_name, no_fit, AreFaults, place_of, rank_of}
use Rattle.snapshot_text.specs.Steps.{Lacks}
use Rattle.snapshot_text.specs.Going.{AreLineWords, SaysNothing, IsTold, IsFirstFrom}
use Rattle.snapshot_text.proofs.Numbers.{number_word}
use Rattle.snapshot_text.proofs.Ordering.{Stands, precedes}
use Rattle.snapshot_text.proofs.Cutting.{ended, line_cut, word_cut, word_last}
use Rattle.snapshot_text.proofs.Lining.{faults_stand_from, begins_first, first_at, no_lines, heads_same, tails_same}

-- a line that says nothing, or is missing, is the first fault
pub silent_first : (text : List ℕ) (cell : Cell) (more : List Cell) (at : ℕ) → at ≤ length text → SaysNothing (drop at text) → IsFirstFrom text (cell ∷ more) at (BadLine (place text at))
silent_first text cell more at le none = record {
  is = at_lines (lines_from at (drop at text)) refl;
  first = λ other f. begins_first text at (BadLine (place text at)) other (record { within = le; is = refl }) refl (faults_stand_from text (cell ∷ more) at other le f);
}
  where
    at_lines : (lines : List Line) → lines_from at (drop at text) ≡ lines → AreFaults text (cell ∷ more) lines (BadLine (place text at))
    at_lines [] e =
        let none' = no_lines at (drop at text) e in
        let long = length-drop at text in
        let here : at ≡ length text = omega (arith, le, none', long) in
        ap (λ n. BadLine (place text n)) here
    at_lines (line ∷ lines) e =
        inl (subst (λ n. IsLineFault text cell line (BadLine (place text n))) (first_at at (drop at text) line lines e) (bad_line (none cell at line lines e)))

-- the three words of a text that was cut
abbrev pub line_words : (text front rest word behind name value : List ℕ) → text ≡ front ++ 10 ∷ rest → Lacks 10 front → front ≡ word ++ 32 ∷ behind → Lacks 32 word → behind ≡ name ++ 32 ∷ value → Lacks 32 name → word ≢ []
    → (number : Number) → IsNumber value number.negative number.magnitude → AreLineWords text word name value
line_words text front rest word behind name value is plain e h g k some number written =
    let all : front ≡ word ++ (32 ∷ (name ++ (32 ∷ value))) = e ∙ ap (λ l. word ++ 32 ∷ l) g in
    record {
      rest = rest;
      is = is ∙ ap (λ l. l ++ 10 ∷ rest) all;
      in_line = subst (Lacks 10) all plain;
      of_word = h;
      of_name = k;
      some = some;
      number = number;
      written = written;
    }

module _ (text : List ℕ) (cell : Cell) (more : List Cell) (at : ℕ) (le : at ≤ length text) (word' name' value' : List ℕ) (p : AreLineWords (drop at text) word' name' value') where
  abbrev front : List ℕ
  front = word' ++ (32 ∷ (name' ++ (32 ∷ value')))

  abbrev name_at : ℕ
  name_at = at + length word' + 1

  abbrev value_at : ℕ
  value_at = at + length word' + 1 + length name' + 1

  abbrev behind : ℕ
  behind = at + length front + 1

  front_long : length front ≡ length word' + (1 + (length name' + (1 + length value')))
  front_long =
      let a = length-append word' (32 ∷ (name' ++ (32 ∷ value'))) in
      let b = length-append name' (32 ∷ value') in
      omega (arith, a, b)

  text_long : length text ≡ at + (length front + (1 + length p.rest))
  text_long =
      let a = length-drop at text in
      let b = ap length p.is ∙ length-append front (10 ∷ p.rest) in
      omega (arith, a, b, le)

  pub rest_is : drop behind text ≡ p.rest
  rest_is =
      let q : behind ≡ at + (length front + 1) = omega arith in
      ap (λ n. drop n text) q ∙ (sym (drop-drop (length front + 1) at text) ∙ (ap (drop (length front + 1)) p.is ∙ past front))
    where
      past : (xs : List ℕ) → drop (length xs + 1) (xs ++ 10 ∷ p.rest) ≡ p.rest
      past xs =
          let q : length xs + 1 ≡ length (xs ++ 10 ∷ []) = sym (length-append xs (10 ∷ [])) in
          ap (drop (length xs + 1)) (sym (append_assoc xs (10 ∷ []) p.rest)) ∙ drop_at (xs ++ 10 ∷ []) p.rest (length xs + 1) (sym q)

  pub cut : lines_from at (drop at text) ≡ ended at front ∷ lines_from behind (drop behind text)
  cut = ap (lines_from at) p.is ∙ (line_cut at front p.rest p.in_line ∙ ap (λ bs. ended at front ∷ lines_from behind bs) (sym rest_is))

  value_lacks : Lacks 32 value'
  value_lacks = number_word value' p.number.negative p.number.magnitude p.written

  words_are : words_from at front ≡ record { at = at; bytes = word' } ∷ record { at = name_at; bytes = name' } ∷ record { at = value_at; bytes = value' } ∷ []
  words_are =
      word_cut at word' (name' ++ (32 ∷ value')) p.of_word
      ∙ ap (λ ws. record { at = at; bytes = word' } ∷ ws) (word_cut name_at name' value' p.of_name ∙ ap (λ ws. record { at = name_at; bytes = name' } ∷ ws) (word_last value_at value' value_lacks))

  -- what the line says is this
  record IsSaid (s : Says cell (ended at front)) : Type 0 where
    word : record { at = at; bytes = word' } ≡ s.word
    name : record { at = name_at; bytes = name' } ≡ s.name
    value : record { at = value_at; bytes = value' } ≡ s.value

  is_said : (s : Says cell (ended at front)) → IsSaid s
  is_said s =
      let all = sym words_are ∙ s.words in
      let behind_word = tails_same _ _ _ _ all in
      record { word = heads_same _ _ _ _ all; name = heads_same _ _ _ _ behind_word; value = heads_same _ _ _ _ (tails_same _ _ _ _ behind_word) }

  same_number : (s : Says cell (ended at front)) → integer_of_number s.number ≡ integer_of_number p.number
  same_number s =
      let bytes : value' ≡ s.value.bytes = ap (λ (w : Word). w.bytes) (is_said s).value in
      let written : IsNumber value' s.number.negative s.number.magnitude = subst (λ bs. IsNumber bs s.number.negative s.number.magnitude) (sym bytes) s.written in
      ap₂ (λ sign m. integer_of_number (record { negative = sign; magnitude = m })) (sign_once value' s.number.negative p.number.negative s.number.magnitude p.number.magnitude written p.written)
      (number_once value' s.number.negative p.number.negative s.number.magnitude p.number.magnitude written p.written)

  -- the first fault of the line, by what the faults of the line and of later lines are
  by_line : (fault : StateFault) → IsLineFault text cell (ended at front) fault → ((other : StateFault) → IsLineFault text cell (ended at front) other → Precedes place_of rank_of fault other)
      → ((other : StateFault) → AreFaults text more (lines_from behind (drop behind text)) other → Precedes place_of rank_of fault other) → IsFirstFrom text (cell ∷ more) at fault
  by_line fault f here later = record {
    is = subst (λ lines. AreFaults text (cell ∷ more) lines fault) (sym cut) (inl f);
    first = λ other g. ⊎_elim (here other) (later other) (subst (λ lines. AreFaults text (cell ∷ more) lines other) cut g);
  }

  within : behind ≤ length text
  within = omega (arith, text_long)

  -- what stands in the line comes before the faults of later lines
  before_later : (fault : StateFault) (offset : ℕ) → Stands text offset fault → offset < behind → (other : StateFault) → AreFaults text more (lines_from behind (drop behind text)) other → Precedes place_of rank_of fault other
  before_later fault offset s lt other f = let o = faults_stand_from text more behind other within f in precedes text offset o.offset fault other s o.there' (inl (omega (arith, lt, o.above)))

  -- an empty name
  pub missing_first : name' ≡ [] → ¬ (name' ≡ cell.name) → IsFirstFrom text (cell ∷ more) at (BadLine (place text at))
  missing_first none ne = record {
    is = subst (λ lines. AreFaults text (cell ∷ more) lines (BadLine (place text at))) (sym cut) (inl (bad_line no_says));
    first = λ other f. begins_first text at (BadLine (place text at)) other (record { within = le; is = refl }) refl (faults_stand_from text (cell ∷ more) at other le f);
  }
    where
      no_says : ¬ (Says cell (ended at front))
      no_says s =
          let bytes : name' ≡ s.name.bytes = ap (λ (w : Word). w.bytes) (is_said s).name in
          ne (none ∙ sym (s.some_name (sym bytes ∙ none)))

  module _ (named : name' ≡ [] → cell.name ≡ []) where
    abbrev says : Says cell (ended at front)
    says = record {
      word = record { at = at; bytes = word' };
      name = record { at = name_at; bytes = name' };
      value = record { at = value_at; bytes = value' };
      number = p.number;
      words = words_are;
      some = p.some;
      some_name = named;
      written = p.written;
      feed = refl;
    }

    word_stands : Stands text at (NameOrder (place text at))
    word_stands = record { within = le; is = refl }

    name_stands : Stands text name_at (NameOrder (place text name_at))
    name_stands = record { within = omega (arith, text_long, front_long); is = refl }

    value_stands : Stands text value_at (ValueRange (place text value_at))
    value_stands = record { within = omega (arith, text_long, front_long); is = refl }

    pub word_first : ¬ (word' ≡ cell.word) → IsFirstFrom text (cell ∷ more) at (NameOrder (place text at))
    word_first ne = by_line (NameOrder (place text at)) (other_word says ne) here (before_later (NameOrder (place text at)) at word_stands (omega arith))
      where
        here : (other : StateFault) → IsLineFault text cell (ended at front) other → Precedes place_of rank_of (NameOrder (place text at)) other
        here _ (bad_line no') = absurd (no' says)
        here _ (other_word s no') =
            let o : at ≡ s.word.at = ap (λ (w : Word). w.at) (is_said s).word in
            precedes text at s.word.at (NameOrder (place text at)) (NameOrder (place text s.word.at)) word_stands (record { within = omega (arith, le, o); is = refl }) (inr (o, omega arith))
        here _ (other_name s no') =
            let o : name_at ≡ s.name.at = ap (λ (w : Word). w.at) (is_said s).name in
            precedes text at s.name.at (NameOrder (place text at)) (NameOrder (place text s.name.at)) word_stands (record { within = omega (arith, text_long, front_long, o); is = refl }) (inl (omega (arith, o)))
        here _ (no_fit s no') =
            let o : value_at ≡ s.value.at = ap (λ (w : Word). w.at) (is_said s).value in
            precedes text at s.value.at (NameOrder (place text at)) (ValueRange (place text s.value.at)) word_stands (record { within = omega (arith, text_long, front_long, o); is = refl }) (inl (omega (arith, o)))

    module _ (same : word' ≡ cell.word) where
      no_other_word : (s : Says cell (ended at front)) → ¬ (s.word.bytes ≢ cell.word)
      no_other_word s ne = ne (sym (ap (λ (w : Word). w.bytes) (is_said s).word) ∙ same)

      pub name_first : ¬ (name' ≡ cell.name) → IsFirstFrom text (cell ∷ more) at (NameOrder (place text name_at))
      name_first ne = by_line (NameOrder (place text name_at)) (other_name says ne) here (before_later (NameOrder (place text name_at)) name_at name_stands (omega (arith, front_long)))
        where
          here : (other : StateFault) → IsLineFault text cell (ended at front) other → Precedes place_of rank_of (NameOrder (place text name_at)) other
          here _ (bad_line no') = absurd (no' says)
          here _ (other_word s no') = absurd (no_other_word s no')
          here _ (other_name s no') =
              let o : name_at ≡ s.name.at = ap (λ (w : Word). w.at) (is_said s).name in
              precedes text name_at s.name.at (NameOrder (place text name_at)) (NameOrder (place text s.name.at)) name_stands (record { within = omega (arith, text_long, front_long, o); is = refl }) (inr (o, omega arith))
          here _ (no_fit s no') =
              let o : value_at ≡ s.value.at = ap (λ (w : Word). w.at) (is_said s).value in
              precedes text name_at s.value.at (NameOrder (place text name_at)) (ValueRange (place text s.value.at)) name_stands (record { within = omega (arith, text_long, front_long, o); is = refl }) (inl (omega (arith, o)))

      module _ (same_name : name' ≡ cell.name) where
        no_other_name : (s : Says cell (ended at front)) → ¬ (s.name.bytes ≢ cell.name)
        no_other_name s ne = ne (sym (ap (λ (w : Word). w.bytes) (is_said s).name) ∙ same_name)

        pub value_first : ¬ (InRange cell.kind cell.width (integer_of_number p.number)) → IsFirstFrom text (cell ∷ more) at (ValueRange (place text value_at))
        value_first out = by_line (ValueRange (place text value_at)) (no_fit says out) here (before_later (ValueRange (place text value_at)) value_at value_stands (omega (arith, front_long)))
          where
            here : (other : StateFault) → IsLineFault text cell (ended at front) other → Precedes place_of rank_of (ValueRange (place text value_at)) other
            here _ (bad_line no') = absurd (no' says)
            here _ (other_word s no') = absurd (no_other_word s no')
            here _ (other_name s no') = absurd (no_other_name s no')
            here _ (no_fit s no') =
                let o : value_at ≡ s.value.at = ap (λ (w : Word). w.at) (is_said s).value in
                precedes text value_at s.value.at (ValueRange (place text value_at)) (ValueRange (place text s.value.at)) value_stands (record { within = omega (arith, text_long, front_long, o); is = refl }) (inr (o, omega arith))

        pub told : (v : ℤ) → integer_of_number p.number ≡ v → InRange cell.kind cell.width v → IsTold text cell at v behind
        told v e fits = record {
          line = record { number = p.number; bytes = value'; is = line_is; written = p.written; value = e; fits = fits };
          first = ended at front;
          lines = cut;
          none = none;
          onward = omega arith;
          within = within;
        }
          where
            line_is : drop at text ≡ cell.word ++ (32 ∷ (cell.name ++ (32 ∷ (value' ++ (10 ∷ drop behind text)))))
            line_is =
                p.is ∙ (append_assoc word' (32 ∷ (name' ++ (32 ∷ value'))) (10 ∷ p.rest)
                ∙ (ap (λ bs. word' ++ (32 ∷ bs)) (append_assoc name' (32 ∷ value') (10 ∷ p.rest))
                ∙ (ap (λ bs. bs ++ (32 ∷ (name' ++ (32 ∷ (value' ++ (10 ∷ p.rest)))))) same
                ∙ (ap (λ bs. cell.word ++ (32 ∷ (bs ++ (32 ∷ (value' ++ (10 ∷ p.rest)))))) same_name
                ∙ ap (λ bs. cell.word ++ (32 ∷ (cell.name ++ (32 ∷ (value' ++ (10 ∷ bs)))))) (sym rest_is)))))

            none : (fault : StateFault) → ¬ (IsLineFault text cell (ended at front) fault)
            none _ (bad_line no') = no' says
            none _ (other_word s no') = no_other_word s no'
            none _ (other_name s no') = no_other_name s no'
            none _ (no_fit s no') = no' (subst (InRange cell.kind cell.width) (sym (same_number s ∙ e)) fits)

        pub told_behind : (v : ℤ) → integer_of_number p.number ≡ v → InRange cell.kind cell.width v → IsTold text cell at v (at + length word' + 1 + length name' + 1 + length value' + 1)
        told_behind v e fits = let q : behind ≡ at + length word' + 1 + length name' + 1 + length value' + 1 = omega (arith, front_long) in subst (IsTold text cell at v) q (told v e fits)
