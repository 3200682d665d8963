-- The first line of a text: what it says, and its first fault.
use Rattle.std.proofs.Common.{◌≡◌, ℕ, ◌+◌, ◌<◌, ◌≤◌, List, [], ◌∷◌, ◌++◌, length, drop, refl, sym, ap, ◌∙◌, subst, arith, inl, inr, ⊎_elim}
use Rattle.std.specs.Prelude.{codes}
use Rattle.std.proofs.lemmas.List.{append_assoc, length-append, drop_at}
use Rattle.place_text.specs.Places.{place}
use Rattle.bit_words.specs.declared.number.Base.TheVariants.{Decimal}
use Rattle.bit_words.specs.Numbers.{WritesDigits}
use Rattle.bit_words.proofs.Digits.{digits_once}
use Rattle.place_text.specs.Order.{Precedes}
use Rattle.place_text.specs.First.{IsFirst}
use Rattle.snapshot_text.specs.declared.fault.StateFault.{StateFault}
use Rattle.snapshot_text.specs.declared.fault.StateFault.TheVariants.{BadLine, NameOrder, CyclesRange}
use Rattle.snapshot_text.specs.Cells.{Cell}
use Rattle.snapshot_text.specs.Texts.{most_cycles}
use Rattle.snapshot_text.specs.Faults.{Word, Line, lines_from, words_from, Heads, IsHeadFault, bad_head, no_state, many_cycles, AreFaults, AreAllFaults, IsFault, place_of, rank_of}
use Rattle.snapshot_text.specs.Steps.{Lacks}
use Rattle.snapshot_text.specs.Going.{AreHeadWords, HasNoHead, IsHead}
use Rattle.snapshot_text.proofs.Numbers.{digits_word}
use Rattle.snapshot_text.proofs.Ordering.{Stands, precedes}
use Rattle.snapshot_text.proofs.Cutting.{ended, line_cut, word_cut, word_last}
use Rattle.snapshot_text.proofs.Lining.{WordsIn, words_in, LinesIn, lines_in, StandsFrom, faults_stand, faults_stand_from, begins_first, first_at, no_lines, heads_same, tails_same, nil_cons, headed_words, lone_word}

head_stands : (text : List ℕ) (line : Line) (fault : StateFault) → line.at + length line.bytes ≤ length text → IsHeadFault text line fault → StandsFrom text 0 fault
head_stands text line _ high (bad_head no') = record { offset = line.at; above = omega arith; there' = record { within = omega (arith, high); is = refl } }
head_stands text line _ high (no_state s ne) =
    let w = subst (WordsIn line.at (line.at + length line.bytes)) s.words (words_in line.at line.bytes (line.at + length line.bytes) refl) in
    record { offset = s.word.at; above = omega arith; there' = record { within = omega (arith, high, w.1); is = refl } }
head_stands text line _ high (many_cycles s over) =
    let w = subst (WordsIn line.at (line.at + length line.bytes)) s.words (words_in line.at line.bytes (line.at + length line.bytes) refl) in
    record { offset = s.number.at; above = omega arith; there' = record { within = omega (arith, high, w.2.1); is = refl } }

all_stand : (text : List ℕ) (cells : List Cell) (fault : StateFault) → IsFault cells text fault → StandsFrom text 0 fault
all_stand text cells fault f = by (lines_from 0 text) (lines_in 0 text (length text) (omega arith)) f
  where
    by : (lines : List Line) → LinesIn 0 (length text) lines → AreAllFaults text cells lines fault → StandsFrom text 0 fault
    by [] w f = record { offset = length text; above = omega arith; there' = record { within = omega arith; is = ap place_of f } }
    by (line ∷ lines) w (inl f) = head_stands text line fault w.1 f
    by (line ∷ lines) w (inr f) = faults_stand text cells 0 lines fault (omega arith) w.2 f

pub silent_head_first : (text : List ℕ) (cells : List Cell) → HasNoHead text → IsFirst place_of rank_of (IsFault cells text) (BadLine (place text 0))
silent_head_first text cells none = record {
  is = at_lines (lines_from 0 text) refl;
  first = λ other f. begins_first text 0 (BadLine (place text 0)) other (record { within = omega arith; is = refl }) refl (all_stand text cells other f);
}
  where
    at_lines : (lines : List Line) → lines_from 0 text ≡ lines → AreAllFaults text cells lines (BadLine (place text 0))
    at_lines [] e = let none' = no_lines 0 text e in ap (λ n. BadLine (place text n)) (sym none')
    at_lines (line ∷ lines) e = inl (subst (λ n. IsHeadFault text line (BadLine (place text n))) (first_at 0 text line lines e) (bad_head (none line lines e)))

-- a first line without a space
pub one_word_head : (text front rest : List ℕ) → text ≡ front ++ 10 ∷ rest → Lacks 10 front → Lacks 32 front → HasNoHead text
one_word_head text front rest is plain h line lines e s =
    nil_cons _ _ (tails_same _ _ _ _ (sym (word_last 0 front h) ∙ headed_words text front rest is plain 0 line lines e s))

module _ (text word cycles : List ℕ) (p : AreHeadWords text word cycles) where
  abbrev front : List ℕ
  front = word ++ (32 ∷ cycles)

  abbrev number_at : ℕ
  number_at = 0 + length word + 1

  abbrev behind : ℕ
  behind = 0 + length front + 1

  front_long : length front ≡ length word + (1 + length cycles)
  front_long = length-append word (32 ∷ cycles) ∙ omega arith

  text_long : length text ≡ length front + (1 + length p.rest)
  text_long = ap length p.is ∙ (length-append front (10 ∷ p.rest) ∙ omega arith)

  pub behind_head : drop behind text ≡ p.rest
  behind_head =
      let q : behind ≡ length (front ++ 10 ∷ []) = let l = length-append front (10 ∷ []) in omega (arith, l) in
      ap (drop behind) (p.is ∙ sym (append_assoc front (10 ∷ []) p.rest)) ∙ drop_at (front ++ 10 ∷ []) p.rest behind (sym q)

  cut : lines_from 0 text ≡ ended 0 front ∷ lines_from behind (drop behind text)
  cut = ap (lines_from 0) p.is ∙ (line_cut 0 front p.rest p.in_line ∙ ap (λ bs. ended 0 front ∷ lines_from behind bs) (sym behind_head))

  within : behind ≤ length text
  within = omega (arith, text_long)

  words_front : words_from 0 front ≡ record { at = 0; bytes = word } ∷ words_from number_at cycles
  words_front = word_cut 0 word cycles p.of_word

  -- no digits
  pub no_digits : ((n : ℕ) → ¬ (WritesDigits Decimal cycles n)) → HasNoHead text
  no_digits none line lines e s =
      let last = tails_same _ _ _ _ (sym words_front ∙ headed_words text front p.rest p.is p.in_line 0 line lines e s) in
      none s.cycles (subst (λ bs. WritesDigits Decimal bs s.cycles) (lone_word number_at cycles s.number last) s.counted)

  module _ (n : ℕ) (counted : WritesDigits Decimal cycles n) where
    words_are : words_from 0 front ≡ record { at = 0; bytes = word } ∷ record { at = number_at; bytes = cycles } ∷ []
    words_are = words_front ∙ ap (λ ws. record { at = 0; bytes = word } ∷ ws) (word_last number_at cycles (digits_word 10 cycles (omega arith) counted.digits))

    abbrev heads : Heads (ended 0 front)
    heads = record {
      word = record { at = 0; bytes = word };
      number = record { at = number_at; bytes = cycles };
      cycles = n;
      words = words_are;
      some = p.some;
      counted = counted;
      feed = refl;
    }

    record IsSaid (s : Heads (ended 0 front)) : Type 0 where
      word' : record { at = 0; bytes = word } ≡ s.word
      number' : record { at = number_at; bytes = cycles } ≡ s.number
      cycles' : s.cycles ≡ n

    is_said : (s : Heads (ended 0 front)) → IsSaid s
    is_said s =
        let all = sym words_are ∙ s.words in
        let number : record { at = number_at; bytes = cycles } ≡ s.number = heads_same _ _ _ _ (tails_same _ _ _ _ all) in
        record {
          word' = heads_same _ _ _ _ all;
          number' = number;
          cycles' = digits_once Decimal cycles s.cycles n (subst (λ bs. WritesDigits Decimal bs s.cycles) (sym (ap (λ (w : Word). w.bytes) number)) s.counted) counted;
        }

    module _ (cells : List Cell) where
      by_line : (fault : StateFault) → IsHeadFault text (ended 0 front) fault → ((other : StateFault) → IsHeadFault text (ended 0 front) other → Precedes place_of rank_of fault other)
          → ((other : StateFault) → AreFaults text cells (lines_from behind (drop behind text)) other → Precedes place_of rank_of fault other) → IsFirst place_of rank_of (IsFault cells text) fault
      by_line fault f here later = record {
        is = subst (λ lines. AreAllFaults text cells lines fault) (sym cut) (inl f);
        first = λ other g. ⊎_elim (here other) (later other) (subst (λ lines. AreAllFaults text cells lines other) cut g);
      }

      before_later : (fault : StateFault) (offset : ℕ) → Stands text offset fault → offset < behind → (other : StateFault) → AreFaults text cells (lines_from behind (drop behind text)) other → Precedes place_of rank_of fault other
      before_later fault offset s lt other f = let o = faults_stand_from text cells behind other within f in precedes text offset o.offset fault other s o.there' (inl (omega (arith, lt, o.above)))

      word_stands : Stands text 0 (NameOrder (place text 0))
      word_stands = record { within = omega arith; is = refl }

      number_stands : Stands text number_at (CyclesRange (place text number_at))
      number_stands = record { within = omega (arith, text_long, front_long); is = refl }

      pub state_first : ¬ (word ≡ codes "state") → IsFirst place_of rank_of (IsFault cells text) (NameOrder (place text 0))
      state_first ne = by_line (NameOrder (place text 0)) (no_state heads ne) here (before_later (NameOrder (place text 0)) 0 word_stands (omega arith))
        where
          here : (other : StateFault) → IsHeadFault text (ended 0 front) other → Precedes place_of rank_of (NameOrder (place text 0)) other
          here _ (bad_head no') = absurd (no' heads)
          here _ (no_state s no') =
              let o : 0 ≡ s.word.at = ap (λ (w : Word). w.at) (is_said s).word' in
              precedes text 0 s.word.at (NameOrder (place text 0)) (NameOrder (place text s.word.at)) word_stands (record { within = omega (arith, o); is = refl }) (inr (o, omega arith))
          here _ (many_cycles s no') =
              let o : number_at ≡ s.number.at = ap (λ (w : Word). w.at) (is_said s).number' in
              precedes text 0 s.number.at (NameOrder (place text 0)) (CyclesRange (place text s.number.at)) word_stands (record { within = omega (arith, text_long, front_long, o); is = refl }) (inl (omega (arith, o)))

      pub cycles_first : word ≡ codes "state" → most_cycles < n → IsFirst place_of rank_of (IsFault cells text) (CyclesRange (place text number_at))
      cycles_first same over = by_line (CyclesRange (place text number_at)) (many_cycles heads over) here (before_later (CyclesRange (place text number_at)) number_at number_stands (omega (arith, front_long)))
        where
          here : (other : StateFault) → IsHeadFault text (ended 0 front) other → Precedes place_of rank_of (CyclesRange (place text number_at)) other
          here _ (bad_head no') = absurd (no' heads)
          here _ (no_state s no') = absurd (no' (sym (ap (λ (w : Word). w.bytes) (is_said s).word') ∙ same))
          here _ (many_cycles s no') =
              let o : number_at ≡ s.number.at = ap (λ (w : Word). w.at) (is_said s).number' in
              precedes text number_at s.number.at (CyclesRange (place text number_at)) (CyclesRange (place text s.number.at)) number_stands (record { within = omega (arith, text_long, front_long, o); is = refl }) (inr (o, omega arith))

      pub cycles_behind : word ≡ codes "state" → most_cycles < n → IsFirst place_of rank_of (IsFault cells text) (CyclesRange (place text (length word + 1)))
      cycles_behind same over =
          let q : number_at ≡ length word + 1 = omega arith in
          subst (λ at. IsFirst place_of rank_of (IsFault cells text) (CyclesRange (place text at))) q (cycles_first same over)

    pub head_read : word ≡ codes "state" → n ≤ most_cycles → IsHead text n behind
    head_read same few = record {
      digits = cycles;
      is = head_is;
      counted = counted;
      few = few;
      first = ended 0 front;
      lines = cut;
      none = none;
      within = within;
    }
      where
        head_is : text ≡ codes "state " ++ (cycles ++ (10 ∷ drop behind text))
        head_is =
            p.is ∙ (append_assoc word (32 ∷ cycles) (10 ∷ p.rest)
            ∙ (ap (λ bs. bs ++ (32 ∷ (cycles ++ (10 ∷ p.rest)))) same ∙ ap (λ bs. codes "state " ++ (cycles ++ (10 ∷ bs))) (sym behind_head)))

        none : (fault : StateFault) → ¬ (IsHeadFault text (ended 0 front) fault)
        none _ (bad_head no') = no' heads
        none _ (no_state s no') = no' (sym (ap (λ (w : Word). w.bytes) (is_said s).word') ∙ same)
        none _ (many_cycles s no') = let c = (is_said s).cycles' in absurd (omega (arith, no', few, c))

    pub head_behind : word ≡ codes "state" → n ≤ most_cycles → IsHead text n (length word + 1 + length cycles + 1)
    head_behind same few = let q : behind ≡ length word + 1 + length cycles + 1 = omega (arith, front_long) in subst (IsHead text n) q (head_read same few)
