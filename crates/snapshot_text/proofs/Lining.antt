-- One line: what it says, and its first fault.
use Rattle.std.proofs.Common.{◌≡◌, ℕ, ◌+◌, ◌≤◌, Bool, true, false, cond, eqb, List, [], ◌∷◌, ◌++◌, length, drop, refl, sym, ap, ◌∙◌, subst, arith, inl, inr, ⊎_elim}
use Rattle.std.proofs.lemmas.Bool.{cases_lt, false≢true}
use Rattle.std.proofs.lemmas.List.{length-drop}
use Rattle.place_text.specs.Places.{place}
use Rattle.bit_words.specs.Numbers.{IsNumber}
use Rattle.place_text.specs.Order.{Precedes}
use Rattle.snapshot_text.specs.declared.fault.StateFault.{StateFault}
use Rattle.snapshot_text.specs.declared.fault.StateFault.TheVariants.{BadLine}
use Rattle.snapshot_text.specs.Cells.{Cell}
use Rattle.snapshot_text.specs.Faults.{Word, Line, in_line, lines_from, in_word, words_from, Heads, Says, IsLineFault, bad_line, other_word, other_name, no_fit, AreFaults, place_of, rank_of}
use Rattle.snapshot_text.specs.Steps.{Lacks}
use Rattle.snapshot_text.specs.Going.{SaysNothing}
use Rattle.snapshot_text.proofs.Ordering.{Stands, precedes}
use Rattle.snapshot_text.proofs.Cutting.{ended, line_cut, line_open, word_cut, word_last, some_word}

-- Where words and lines stand

abbrev pub WordsIn : ℕ → ℕ → List Word → Type 0
WordsIn at n [] = Unit {0}
WordsIn at n (w ∷ ws) = (at ≤ w.at) × (w.at ≤ n) × WordsIn at n ws

words_weaker : (at low n : ℕ) (ws : List Word) → low ≤ at → WordsIn at n ws → WordsIn low n ws
words_weaker at low n [] le h = tt
words_weaker at low n (w ∷ ws) le h = (omega (arith, le, h.0), h.1, words_weaker at low n ws le h.2)

pub words_in : (at : ℕ) (xs : List ℕ) (n : ℕ) → n ≡ at + length xs → WordsIn at n (words_from at xs)
words_in at [] n e = (omega arith, omega (arith, e), tt)
words_in at (x ∷ xs) n e = by (eqb x 32) (words_from (at + 1) xs) (words_in (at + 1) xs n (omega (arith, e)))
  where
    by : (b : Bool) (ws : List Word) → WordsIn (at + 1) n ws → WordsIn at n (cond b (record { at = at; bytes = [] } ∷ ws) (in_word at x ws))
    by true ws h = (omega arith, omega (arith, e), words_weaker (at + 1) at n ws (omega arith) h)
    by false [] h = (omega arith, omega (arith, e), tt)
    by false (w ∷ ws) h = (omega arith, omega (arith, e), words_weaker (at + 1) at n ws (omega arith) h.2)

abbrev pub LinesIn : ℕ → ℕ → List Line → Type 0
LinesIn at n [] = Unit {0}
LinesIn at n (l ∷ ls) = (at ≤ l.at) × (l.at + length l.bytes ≤ n) × LinesIn at n ls

lines_weaker : (at low n : ℕ) (ls : List Line) → low ≤ at → LinesIn at n ls → LinesIn low n ls
lines_weaker at low n [] le h = tt
lines_weaker at low n (l ∷ ls) le h = (omega (arith, le, h.0), h.1, lines_weaker at low n ls le h.2)

pub lines_in : (at : ℕ) (xs : List ℕ) (n : ℕ) → n ≡ at + length xs → LinesIn at n (lines_from at xs)
lines_in at [] n e = tt
lines_in at (x ∷ xs) n e = by (eqb x 10) (lines_from (at + 1) xs) (lines_in (at + 1) xs n (omega (arith, e)))
  where
    by : (b : Bool) (ls : List Line) → LinesIn (at + 1) n ls → LinesIn at n (cond b (ended at [] ∷ ls) (in_line at x ls))
    by true ls h = (omega arith, omega (arith, e), lines_weaker (at + 1) at n ls (omega arith) h)
    by false [] h = (omega arith, omega (arith, e), tt)
    by false (l ∷ ls) h = (omega arith, omega (arith, h.0, h.1), lines_weaker (at + 1) at n ls (omega arith) h.2)

-- the first line begins at once
pub first_at : (at : ℕ) (xs : List ℕ) (line : Line) (lines : List Line) → lines_from at xs ≡ line ∷ lines → line.at ≡ at
first_at at [] line lines e = cc
first_at at (x ∷ xs) line lines e = by (eqb x 10) (lines_from (at + 1) xs) e
  where
    by : (b : Bool) (ls : List Line) → cond b (ended at [] ∷ ls) (in_line at x ls) ≡ line ∷ lines → line.at ≡ at
    by true ls e = let same : ended at [] ≡ line = cc in sym (ap (λ (l : Line). l.at) same)
    by false [] e = let same : record { at = at; bytes = x ∷ []; is_ended = false } ≡ line = cc in sym (ap (λ (l : Line). l.at) same)
    by false (l ∷ ls) e = let same : record { at = at; bytes = x ∷ l.bytes; is_ended = l.is_ended } ≡ line = cc in sym (ap (λ (l : Line). l.at) same)

-- no line, no bytes
pub no_lines : (at : ℕ) (xs : List ℕ) → lines_from at xs ≡ [] → length xs ≡ 0
no_lines at [] e = refl
no_lines at (x ∷ xs) e = absurd (by (eqb x 10) (lines_from (at + 1) xs) e)
  where
    by : (b : Bool) (ls : List Line) → cond b (ended at [] ∷ ls) (in_line at x ls) ≡ [] → ⊥
    by true ls e = cc
    by false [] e = cc
    by false (l ∷ ls) e = cc

-- Where faults stand

pub record StandsFrom (text : List ℕ) (at : ℕ) (fault : StateFault) : Type 0 where
  pub offset : ℕ
  pub above : at ≤ offset
  pub there' : Stands text offset fault

line_stands : (text : List ℕ) (cell : Cell) (at : ℕ) (line : Line) (fault : StateFault) → at ≤ line.at → line.at + length line.bytes ≤ length text → IsLineFault text cell line fault → StandsFrom text at fault
line_stands text cell at line _ low high (bad_line no') = record { offset = line.at; above = low; there' = record { within = omega (arith, high); is = refl } }
line_stands text cell at line _ low high (other_word says ne) =
    let w = subst (WordsIn line.at (line.at + length line.bytes)) says.words (words_in line.at line.bytes (line.at + length line.bytes) refl) in
    record { offset = says.word.at; above = omega (arith, low, w.0); there' = record { within = omega (arith, high, w.1); is = refl } }
line_stands text cell at line _ low high (other_name says ne) =
    let w = subst (WordsIn line.at (line.at + length line.bytes)) says.words (words_in line.at line.bytes (line.at + length line.bytes) refl) in
    record { offset = says.name.at; above = omega (arith, low, w.2.0); there' = record { within = omega (arith, high, w.2.1); is = refl } }
line_stands text cell at line _ low high (no_fit says out) =
    let w = subst (WordsIn line.at (line.at + length line.bytes)) says.words (words_in line.at line.bytes (line.at + length line.bytes) refl) in
    record { offset = says.value.at; above = omega (arith, low, w.2.2.0); there' = record { within = omega (arith, high, w.2.2.1); is = refl } }

at_place : (text : List ℕ) (at n : ℕ) (fault : StateFault) → at ≤ n → n ≤ length text → fault ≡ BadLine (place text n) → StandsFrom text at fault
at_place text at n fault low high e = record { offset = n; above = low; there' = record { within = high; is = ap place_of e } }

-- all faults of lines stand behind the beginning of the first one
pub faults_stand : (text : List ℕ) (cells : List Cell) (at : ℕ) (lines : List Line) (fault : StateFault) → at ≤ length text → LinesIn at (length text) lines → AreFaults text cells lines fault → StandsFrom text at fault
faults_stand text [] at [] fault le w h = absurd h
faults_stand text [] at (line ∷ lines) fault le w h = at_place text at line.at fault w.0 (omega (arith, w.1)) h
faults_stand text (cell ∷ cells) at [] fault le w h = at_place text at (length text) fault le (omega arith) h
faults_stand text (cell ∷ cells) at (line ∷ lines) fault le w (inl f) = line_stands text cell at line fault w.0 w.1 f
faults_stand text (cell ∷ cells) at (line ∷ lines) fault le w (inr f) = faults_stand text cells at lines fault le w.2 f

pub faults_stand_from : (text : List ℕ) (cells : List Cell) (at : ℕ) (fault : StateFault) → at ≤ length text → AreFaults text cells (lines_from at (drop at text)) fault → StandsFrom text at fault
faults_stand_from text cells at fault le h =
    let long = length-drop at text in
    faults_stand text cells at (lines_from at (drop at text)) fault le (lines_in at (drop at text) (length text) (omega (arith, long, le))) h

-- what stands at the beginning and has the lowest rank comes first
pub begins_first : (text : List ℕ) (at : ℕ) (fault other : StateFault) → Stands text at fault → rank_of fault ≡ 0 → StandsFrom text at other → Precedes place_of rank_of fault other
begins_first text at fault other s zero' o =
    precedes text at o.offset fault other s o.there' (⊎_elim (λ lt. inl lt) (λ ge. inr (omega (arith, ge, o.above), omega (arith, zero'))) (cases_lt at o.offset))

-- Lines that say nothing

pub heads_same : {A : Type 0} (x y : A) (xs ys : List A) → x ∷ xs ≡ y ∷ ys → x ≡ y
heads_same x y xs ys e = cc

pub tails_same : {A : Type 0} (x y : A) (xs ys : List A) → x ∷ xs ≡ y ∷ ys → xs ≡ ys
tails_same x y xs ys e = cc

pub nil_cons : {A : Type 0} (x : A) (xs : List A) → ◌≡◌ {A = List A} [] (x ∷ xs) → ⊥
nil_cons x xs e = cc

pub cons_nil : {A : Type 0} (x : A) (xs : List A) → ◌≡◌ {A = List A} (x ∷ xs) [] → ⊥
cons_nil x xs e = cc

-- one word is all of its line
pub lone_word : (at : ℕ) (xs : List ℕ) (v : Word) → words_from at xs ≡ v ∷ [] → v.bytes ≡ xs
lone_word at [] v e = sym (ap (λ (w : Word). w.bytes) (heads_same _ _ _ _ e))
lone_word at (x ∷ xs) v e = by (eqb x 32) (words_from (at + 1) xs) (λ w f. lone_word (at + 1) xs w f) (some_word (at + 1) xs).is e
  where
    by : {w : Word} {rest : List Word} (b : Bool) (ws : List Word) → ((w : Word) → ws ≡ w ∷ [] → w.bytes ≡ xs) → ws ≡ w ∷ rest → cond b (record { at = at; bytes = [] } ∷ ws) (in_word at x ws) ≡ v ∷ [] → v.bytes ≡ x ∷ xs
    by true ws on some e = absurd (cons_nil _ _ (sym some ∙ tails_same _ _ _ _ e))
    by false [] on some e = absurd (nil_cons _ _ some)
    by false (w ∷ ws) on some e =
        let t : ws ≡ [] = tails_same _ _ _ _ e in
        sym (ap (λ (w : Word). w.bytes) (heads_same _ _ _ _ e)) ∙ ap (λ bs. x ∷ bs) (on w (ap (λ l. w ∷ l) t))

open_line : (text : List ℕ) → Lacks 10 text → (at : ℕ) (line : Line) (lines : List Line) → lines_from at text ≡ line ∷ lines → line.is_ended ≡ false
open_line [] h at line lines e = cc
open_line (x ∷ xs) h at line lines e = sym (ap (λ (l : Line). l.is_ended) (heads_same _ _ _ _ (sym (line_open at x xs h) ∙ e)))

pub no_feed : (text : List ℕ) → Lacks 10 text → SaysNothing text
no_feed text h cell at line lines e s = false≢true (sym (open_line text h at line lines e) ∙ s.feed)

pub no_feed_head : (text : List ℕ) → Lacks 10 text → (line : Line) (lines : List Line) → lines_from 0 text ≡ line ∷ lines → ¬ (Heads line)
no_feed_head text h line lines e s = false≢true (sym (open_line text h 0 line lines e) ∙ s.feed)

-- the first line of a text with a line feed
module _ (text front rest : List ℕ) (is : text ≡ front ++ 10 ∷ rest) (plain : Lacks 10 front) where
  pub cut_lines : (at : ℕ) → lines_from at text ≡ ended at front ∷ lines_from (at + length front + 1) rest
  cut_lines at = ap (lines_from at) is ∙ line_cut at front rest plain

  pub cut_line : (at : ℕ) (line : Line) (lines : List Line) → lines_from at text ≡ line ∷ lines → line ≡ ended at front
  cut_line at line lines e = heads_same _ _ _ _ (sym e ∙ cut_lines at)

  pub said_words : (at : ℕ) (line : Line) (lines : List Line) (cell : Cell) → lines_from at text ≡ line ∷ lines → (s : Says cell line) → words_from at front ≡ s.word ∷ s.name ∷ s.value ∷ []
  said_words at line lines cell e s = ap (λ (l : Line). words_from l.at l.bytes) (sym (cut_line at line lines e)) ∙ s.words

  pub headed_words : (at : ℕ) (line : Line) (lines : List Line) → lines_from at text ≡ line ∷ lines → (s : Heads line) → words_from at front ≡ s.word ∷ s.number ∷ []
  headed_words at line lines e s = ap (λ (l : Line). words_from l.at l.bytes) (sym (cut_line at line lines e)) ∙ s.words

  pub one_word : Lacks 32 front → SaysNothing text
  one_word h cell at line lines e s = nil_cons _ _ (tails_same _ _ _ _ (sym (word_last at front h) ∙ said_words at line lines cell e s))

  pub two_words : (word name : List ℕ) → front ≡ word ++ 32 ∷ name → Lacks 32 word → Lacks 32 name → SaysNothing text
  two_words word name f h k cell at line lines e s =
      let both : words_from at front ≡ record { at = at; bytes = word } ∷ record { at = at + length word + 1; bytes = name } ∷ [] =
      ap (words_from at) f ∙ (word_cut at word name h ∙ ap (λ ws. record { at = at; bytes = word } ∷ ws) (word_last (at + length word + 1) name k)) in
      nil_cons _ _ (tails_same _ _ _ _ (tails_same _ _ _ _ (sym both ∙ said_words at line lines cell e s)))

  -- three words and more behind two spaces
  module _ (word name value : List ℕ) (f : front ≡ word ++ (32 ∷ (name ++ (32 ∷ value)))) (h : Lacks 32 word) (k : Lacks 32 name) where
    pub three : (at : ℕ) → words_from at front ≡ record { at = at; bytes = word } ∷ record { at = at + length word + 1; bytes = name } ∷ words_from (at + length word + 1 + length name + 1) value
    three at =
        ap (words_from at) f
        ∙ (word_cut at word (name ++ (32 ∷ value)) h ∙ ap (λ ws. record { at = at; bytes = word } ∷ ws) (word_cut (at + length word + 1) name value k))

    pub no_first : word ≡ [] → SaysNothing text
    no_first none cell at line lines e s =
        let first : record { at = at; bytes = word } ≡ s.word = heads_same _ _ _ _ (sym (three at) ∙ said_words at line lines cell e s) in
        s.some (sym (ap (λ (w : Word). w.bytes) first) ∙ none)

    pub value_is : (at : ℕ) (v : Word) → words_from (at + length word + 1 + length name + 1) value ≡ v ∷ [] → v.bytes ≡ value
    value_is at v e = lone_word (at + length word + 1 + length name + 1) value v e

    pub no_number : ((negative : Bool) (m : ℕ) → ¬ (IsNumber value negative m)) → SaysNothing text
    no_number none cell at line lines e s =
        let last = tails_same _ _ _ _ (tails_same _ _ _ _ (sym (three at) ∙ said_words at line lines cell e s)) in
        none s.number.negative s.number.magnitude (subst (λ bs. IsNumber bs s.number.negative s.number.magnitude) (value_is at s.value last) s.written)
