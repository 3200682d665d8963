-- The first fault of a stimulus, from those of its lines.
use Rattle.std.proofs.Common.{◌≡◌, ℕ, zero, suc, ◌+◌, ◌*◌, ◌<◌, ◌≤◌, true, List, [], ◌∷◌, length, take, Some, Option, refl, sym, ap, ◌∙◌, subst, arith, ⊎_elim, ◌⊎◌, inl, inr}
use Rattle.std.specs.Prelude.{slice_get}
use Rattle.std.proofs.lemmas.Bool.{cases_lt}
use Rattle.std.proofs.lemmas.List.{take-take}
use Rattle.place_text.specs.Places.{place}
use Rattle.place_text.specs.declared.place.Place.{Place}
use Rattle.place_text.specs.Order.{ComesFirst, Precedes}
use Rattle.place_text.proofs.Ordering.{itself}
use Rattle.place_text.specs.First.{IsFirst, HasNone}
use Rattle.bit_words.specs.declared.number.Base.TheVariants.{Decimal}
use Rattle.bit_words.specs.Numbers.{WritesDigits}
use Rattle.bit_words.proofs.Digits.{digits_once}
use Rattle.ground_net.specs.declared.net.Ports.{Ports}
use Rattle.stimulus.specs.declared.fault.StimFault.{StimFault}
use Rattle.stimulus.specs.declared.fault.StimFault.TheVariants.{BadLine, CyclesRange}
use Rattle.stimulus.specs.Words.{Word, told_lines, is_told}
use Rattle.stimulus.specs.Forms.{Digits, A_leaf, A_number, heading_forms, setting_forms, Breaks, Heads, Said, Says}
use Rattle.stimulus.specs.Faults.{most_cycles, IsLineFault, cycle_order, cycle_range, leaf_unknown, not_input, leaf_twice, value_range, IsFault, no_line, bad_heading, cycles_range, bad_setting, of_line, place_of, rank_of}
use Rattle.stimulus.specs.Reading.{HaveNoFault, IsFirstOfLine, IsFirstOfLines}
use Rattle.stimulus.proofs.Ordering.{not_later}
use Rattle.stimulus.proofs.Judged.{says_once}
use Rattle.stimulus.proofs.Placing.{Within, Span, Two, span, two, breaks_within, breaks_once, told_lines-apart, told_lines-told}

-- lines with an equal first one
head_same : {A : Type 0} (x y : A) (xs ys : List A) → x ∷ xs ≡ y ∷ ys → (x ≡ y) × (xs ≡ ys)
head_same x y xs ys e = (cc, cc)

-- the first line says one thing
pub heads_once : (text : List ℕ) (number other : Word) (cycles more : ℕ) (lines rest : List (List Word)) → Heads text number cycles lines → Heads text other more rest → (number ≡ other) × (cycles ≡ more) × (lines ≡ rest)
heads_once text number other cycles more lines rest h g =
    let parts = head_same _ _ _ _ (sym h.first ∙ g.first) in
    let words = head_same _ _ _ _ (head_same _ _ _ _ parts.0).1 in
    (words.0, digits_once Decimal other.bytes cycles more (subst (λ (w : Word). WritesDigits Decimal w.bytes cycles) words.0 h.counted) g.counted, parts.1)

-- a line that says something breaks no form
pub says_no_break : (line : List Word) (said : Said) (at : ℕ) → Says line said → Breaks setting_forms 0 line at → ⊥
says_no_break line said at s b = by (subst (λ ws. Breaks setting_forms 0 ws at) s.words b)
  where
    by : Breaks setting_forms 0 (said.cycle_word ∷ said.leaf ∷ said.value_word ∷ []) at → ⊥
    by (inl h) = h.0 (said.cycle, s.cycle)
    by (inr (_, inl h)) = h.0 tt
    by (inr (_, inr (_, inl h))) = h.0 (said.number.negative, said.number.magnitude, s.number)
    by (inr (_, inr (_, inr (_, h)))) = absurd h

pub heads_no_break : (text : List ℕ) (number : Word) (cycles : ℕ) (lines rest : List (List Word)) (line : List Word) (at : ℕ) → Heads text number cycles lines → told_lines text ≡ line ∷ rest → Breaks heading_forms 0 line at → ⊥
heads_no_break text number cycles lines rest line at h e b =
    let parts = head_same _ _ _ _ (sym e ∙ h.first) in
    by (subst (λ ws. Breaks heading_forms 0 ws at) parts.0 b)
  where
    by : Breaks heading_forms 0 (h.word ∷ number ∷ []) at → ⊥
    by (inl t) = t.0 h.spelled
    by (inr (_, inl t)) = t.0 (cycles, h.counted)
    by (inr (_, inr (_, t))) = absurd t

-- a fault stands between two offsets
record StandsIn (text : List ℕ) (low high : ℕ) (fault : StimFault) : Type 0 where
  at : ℕ
  above : low ≤ at
  within : at ≤ high
  place' : place_of fault ≡ Some (place text at)

precedes_apart : (text : List ℕ) (low high from to : ℕ) (fault other : StimFault) → StandsIn text low high fault → StandsIn text from to other → high < from → to ≤ length text → Precedes place_of rank_of fault other
precedes_apart text low high from to fault other s t lt le =
    let here = not_later text s.at (rank_of fault) t.at (rank_of other) (omega (arith, t.within, le)) (inl (omega (arith, s.within, t.above, lt))) in
    subst (λ (p : Option Place). ComesFirst p (rank_of fault) (place_of other) (rank_of other)) (sym s.place') (subst (λ (q : Option Place). ComesFirst (Some (place text s.at)) (rank_of fault) q (rank_of other)) (sym t.place') here)

-- a fault of a line
abbrev pub IsFaultOfLine : List ℕ → Ports → ℕ → List (List Word) → List Word → StimFault → Type 0
IsFaultOfLine text ports cycles before line fault =
    ((at : ℕ) × Breaks setting_forms 0 line at × (fault ≡ BadLine (place text at))) ⊎ ((said : Said) × Says line said × IsLineFault text ports cycles before said fault)

-- it stands in the line
stands_in : (text : List ℕ) (ports : Ports) (cycles : ℕ) (before : List (List Word)) (low high : ℕ) (line : List Word) (fault : StimFault) → is_told line ≡ true → Within low high line
    → IsFaultOfLine text ports cycles before line fault → StandsIn text low high fault
stands_in text ports cycles before low high line fault told w (inl b) =
    let t = breaks_within Digits (A_leaf ∷ A_number ∷ []) low high line b.0 told w b.1 in
    record { at = b.0; above = t.0; within = t.1; place' = ap place_of b.2 }
stands_in text ports cycles before low high line fault told w (inr f) = by fault f.2
  where
    said : Said
    said = f.0

    words : Within low high (said.cycle_word ∷ said.leaf ∷ said.value_word ∷ [])
    words = subst (Within low high) f.1.words w

    by : (fault : StimFault) → IsLineFault text ports cycles before said fault → StandsIn text low high fault
    by fault (cycle_order line earlier at says less) = record { at = said.cycle_word.at; above = words.0; within = omega (arith, words.2.0, words.2.2.0, words.2.2.2); place' = refl }
    by fault (cycle_range past) = record { at = said.cycle_word.at; above = words.0; within = omega (arith, words.2.0, words.2.2.0, words.2.2.2); place' = refl }
    by fault (leaf_unknown missing) = record { at = said.leaf.at; above = omega (arith, words.0, words.2.0); within = omega (arith, words.2.2.0, words.2.2.2); place' = refl }
    by fault (not_input known none) = record { at = said.leaf.at; above = omega (arith, words.0, words.2.0); within = omega (arith, words.2.2.0, words.2.2.2); place' = refl }
    by fault (leaf_twice line earlier c says cycle leaf) = record { at = said.leaf.at; above = omega (arith, words.0, words.2.0); within = omega (arith, words.2.2.0, words.2.2.2); place' = refl }
    by fault (value_range n leaf named at fails) = record { at = said.value_word.at; above = omega (arith, words.0, words.2.0, words.2.2.0); within = omega (arith, words.2.2.2); place' = refl }

-- a first fault of a line is one of it
first_is : (text : List ℕ) (ports : Ports) (cycles : ℕ) (before : List (List Word)) (line : List Word) (fault : StimFault) → IsFirstOfLine text ports cycles before line fault → IsFaultOfLine text ports cycles before line fault
first_is text ports cycles before line fault (inl b) = inl b
first_is text ports cycles before line fault (inr f) = inr (f.0, f.1, f.2.is)

-- no other one of the line comes before it
first_before : (text : List ℕ) (ports : Ports) (cycles : ℕ) (before : List (List Word)) (line : List Word) (fault other : StimFault) → IsFirstOfLine text ports cycles before line fault → IsFaultOfLine text ports cycles before line other
    → Precedes place_of rank_of fault other
first_before text ports cycles before line fault other (inl b) (inl c) =
    let one = breaks_once setting_forms 0 line b.0 c.0 b.1 c.1 in
    subst (Precedes place_of rank_of fault) (b.2 ∙ ap (λ at. BadLine (place text at)) one ∙ sym c.2) (itself place_of rank_of fault)
first_before text ports cycles before line fault other (inl b) (inr f) = absurd (says_no_break line f.0 b.0 f.1 b.1)
first_before text ports cycles before line fault other (inr f) (inl b) = absurd (says_no_break line f.0 b.0 f.1 b.1)
first_before text ports cycles before line fault other (inr f) (inr g) =
    let one = says_once line g.0 f.0 g.1 f.1 in
    f.2.first other (subst (λ (said : Said). IsLineFault text ports cycles before said other) one g.2)

slice_get-take : {A : Type 0} (k j : ℕ) (xs : List A) → j < k → slice_get (take k xs) j ≡ slice_get xs j
slice_get-take zero j xs lt = absurd (omega (arith, lt))
slice_get-take (suc k) j [] lt = refl
slice_get-take (suc k) zero (x ∷ xs) lt = refl
slice_get-take (suc k) (suc j) (x ∷ xs) lt = slice_get-take k j xs (omega (arith, lt))

-- lines without a fault have none
none_of_line : (text : List ℕ) (ports : Ports) (cycles : ℕ) (lines : List (List Word)) (j : ℕ) (line : List Word) (fault : StimFault) → HaveNoFault text ports cycles lines → slice_get lines j ≡ Some line
    → ¬ (IsFaultOfLine text ports cycles (take j lines) line fault)
none_of_line text ports cycles lines j line fault none at (inl b) = let s = none j line at in says_no_break line s.0 b.0 s.1 b.1
none_of_line text ports cycles lines j line fault none at (inr f) =
    let s = none j line at in
    let one = says_once line f.0 s.0 f.1 s.1 in
    s.2 fault (subst (λ (said : Said). IsLineFault text ports cycles (take j lines) said fault) one f.2)

module _ (text : List ℕ) (ports : Ports) where
  -- a text without a line
  pub no_line_first : told_lines text ≡ [] → IsFirst place_of rank_of (IsFault text ports) (BadLine (place text (length text)))
  no_line_first none = record { is = no_line none; first = first }
    where
      absent : {line : List Word} {lines : List (List Word)} → told_lines text ≡ line ∷ lines → ⊥
      absent e = cc

      first : (other : StimFault) → IsFault text ports other → Precedes place_of rank_of (BadLine (place text (length text))) other
      first other (no_line e) = not_later text (length text) 0 (length text) 0 (omega arith) (inr (refl, omega arith))
      first other (bad_heading line lines at e b) = absurd (absent e)
      first other (cycles_range number cycles lines h over) = absurd (absent h.first)
      first other (bad_setting number cycles lines k line at h e b) = absurd (absent h.first)
      first other (of_line number cycles lines k line said fault h e s f) = absurd (absent h.first)

  -- a first line that breaks its form
  pub bad_heading_first : (line : List Word) (lines : List (List Word)) (at : ℕ) → told_lines text ≡ line ∷ lines → at ≤ length text → Breaks heading_forms 0 line at
      → IsFirst place_of rank_of (IsFault text ports) (BadLine (place text at))
  bad_heading_first line lines at e within b = record { is = bad_heading line lines at e b; first = first }
    where
      absent : told_lines text ≡ [] → ⊥
      absent f = cc

      headless : (number : Word) (cycles : ℕ) (rest : List (List Word)) → Heads text number cycles rest → ⊥
      headless number cycles rest h = heads_no_break text number cycles rest lines line at h e b

      first : (other : StimFault) → IsFault text ports other → Precedes place_of rank_of (BadLine (place text at)) other
      first other (no_line e) = absurd (absent e)
      first other (bad_heading line' lines' at' e' b') =
          let same = head_same _ _ _ _ (sym e' ∙ e) in
          let here : at ≡ at' = breaks_once heading_forms 0 line at at' b (subst (λ ws. Breaks heading_forms 0 ws at') same.0 b') in
          not_later text at 0 at' 0 (omega (arith, within, here)) (inr (here, omega arith))
      first other (cycles_range number cycles lines h over) = absurd (headless number cycles lines h)
      first other (bad_setting number cycles lines k line at h e b) = absurd (headless number cycles lines h)
      first other (of_line number cycles lines k line said fault h e s f) = absurd (headless number cycles lines h)

  module _ (number : Word) (cycles : ℕ) (lines : List (List Word)) (heads : Heads text number cycles lines) where
    absent : told_lines text ≡ [] → ⊥
    absent e = let f = heads.first in cc

    -- where the first line and the others stand
    heading_span : Span (length text) 0 (heads.word ∷ number ∷ [])
    heading_span = span (length text) 0 (told_lines text) 0 (heads.word ∷ number ∷ []) (told_lines-apart text) (ap (λ ls. slice_get ls 0) heads.first)

    number_within : number.at ≤ length text
    number_within = let s = heading_span in let w = s.words in omega (arith, w.2.2, s.within)

    line_told : (k : ℕ) (line : List Word) → slice_get lines k ≡ Some line → slice_get (told_lines text) (suc k) ≡ Some line
    line_told k line e = ap (λ ls. slice_get ls (suc k)) heads.first ∙ e

    behind_heading : (k : ℕ) (line : List Word) → slice_get lines k ≡ Some line → Two (length text) 0 (heads.word ∷ number ∷ []) line
    behind_heading k line e = two (length text) 0 (told_lines text) 0 (suc k) (heads.word ∷ number ∷ []) line (told_lines-apart text) (omega arith) (ap (λ ls. slice_get ls 0) heads.first) (line_told k line e)

    -- another first line is this one
    same_heads : (other : Word) (more : ℕ) (rest : List (List Word)) → Heads text other more rest → (number ≡ other) × (cycles ≡ more) × (lines ≡ rest)
    same_heads other more rest h = heads_once text number other cycles more lines rest heads h

    no_bad_heading : (line : List Word) (rest : List (List Word)) (at : ℕ) → told_lines text ≡ line ∷ rest → Breaks heading_forms 0 line at → ⊥
    no_bad_heading line rest at e b = heads_no_break text number cycles lines rest line at heads e b

    -- a fault of the lines behind the first one
    record IsBehind (fault : StimFault) : Type 0 where
      k : ℕ
      line : List Word
      at : slice_get lines k ≡ Some line
      is : IsFaultOfLine text ports cycles (take k lines) line fault

    behind_bad : (other : Word) (more : ℕ) (rest : List (List Word)) (k : ℕ) (line : List Word) (at : ℕ) → Heads text other more rest → slice_get rest k ≡ Some line → Breaks setting_forms 0 line at → IsBehind (BadLine (place text at))
    behind_bad other more rest k line at h e b =
        let same = same_heads other more rest h in record { k = k; line = line; at = ap (λ ls. slice_get ls k) same.2 ∙ e; is = inl (at, b, refl) }

    behind_line : (other : Word) (more : ℕ) (rest : List (List Word)) (k : ℕ) (line : List Word) (said : Said) (fault : StimFault) → Heads text other more rest → slice_get rest k ≡ Some line → Says line said
        → IsLineFault text ports more (take k rest) said fault → IsBehind fault
    behind_line other more rest k line said fault h e s f =
        let same = same_heads other more rest h in
        record {
          k = k;
          line = line;
          at = ap (λ ls. slice_get ls k) same.2 ∙ e;
          is = inr (said, s, subst (λ ls. IsLineFault text ports cycles (take k ls) said fault) (sym same.2) (subst (λ n. IsLineFault text ports n (take k rest) said fault) (sym same.1) f));
        }

    -- where the line of a number stands
    told_line : (k : ℕ) (line : List Word) → slice_get lines k ≡ Some line → is_told line ≡ true
    told_line k line e = told_lines-told text (suc k) line (line_told k line e)

    -- a number of cycles past the limits comes before them all
    number_first : (fault : StimFault) → place_of fault ≡ Some (place text number.at) → (other : StimFault) → IsBehind other → Precedes place_of rank_of fault other
    number_first fault at other b =
        let apart = behind_heading b.k b.line b.at in
        let s = apart.first in
        let w = s.words in
        let t = apart.second in
        precedes_apart text s.from s.to t.from t.to fault other (record { at = number.at; above = omega (arith, w.0, w.2.0); within = omega (arith, w.2.2); place' = at })
        (stands_in text ports cycles (take b.k lines) t.from t.to b.line other (told_line b.k b.line b.at) t.words b.is) (omega (arith, t.above)) t.within

    pub cycles_range_first : most_cycles < cycles → IsFirst place_of rank_of (IsFault text ports) (CyclesRange (place text number.at))
    cycles_range_first over = record { is = cycles_range number cycles lines heads over; first = first }
      where
        first : (other : StimFault) → IsFault text ports other → Precedes place_of rank_of (CyclesRange (place text number.at)) other
        first other (no_line e) = absurd (absent e)
        first other (bad_heading line rest at e b) = absurd (no_bad_heading line rest at e b)
        first other (cycles_range number' more rest h over') = let same = same_heads number' more rest h in subst (λ (w : Word). Precedes place_of rank_of (CyclesRange (place text number.at)) (CyclesRange (place text w.at))) same.0 (itself place_of rank_of (CyclesRange (place text number.at)))
        first other (bad_setting number' more rest k line at h e b) = number_first (CyclesRange (place text number.at)) refl _ (behind_bad number' more rest k line at h e b)
        first other (of_line number' more rest k line said fault h e s f) = number_first (CyclesRange (place text number.at)) refl other (behind_line number' more rest k line said other h e s f)

    -- the first fault of the lines behind the first one
    lines_before : (fault other : StimFault) → IsFirstOfLines text ports cycles lines fault → IsBehind other → Precedes place_of rank_of fault other
    lines_before fault other f b = ⊎_elim earlier (λ ge. ⊎_elim later (λ le. here (omega (arith, ge, le))) (cases_lt f.number b.k)) (cases_lt b.k f.number)
      where
        earlier : b.k < f.number → Precedes place_of rank_of fault other
        earlier lt =
            let before = subst (λ ls. IsFaultOfLine text ports cycles ls b.line other) (sym (take-take b.k f.number lines (omega (arith, lt)))) b.is in
            absurd (none_of_line text ports cycles (take f.number lines) b.k b.line other f.before (slice_get-take f.number b.k lines lt ∙ b.at) before)

        here : f.number ≡ b.k → Precedes place_of rank_of fault other
        here e =
            let there'' : Some f.line ≡ Some b.line = sym f.there' ∙ ap (slice_get lines) e ∙ b.at in
            let line : f.line ≡ b.line = cc in
            first_before text ports cycles (take f.number lines) f.line fault other f.is
            (subst (λ l. IsFaultOfLine text ports cycles (take f.number lines) l other) (sym line) (subst (λ n. IsFaultOfLine text ports cycles (take n lines) b.line other) (sym e) b.is))

        later : f.number < b.k → Precedes place_of rank_of fault other
        later lt =
            let apart = two (length text) 0 (told_lines text) (suc f.number) (suc b.k) f.line b.line (told_lines-apart text) (omega (arith, lt)) (line_told f.number f.line f.there') (line_told b.k b.line b.at) in
            let s = apart.first in
            let t = apart.second in
            precedes_apart text s.from s.to t.from t.to fault other
            (stands_in text ports cycles (take f.number lines) s.from s.to f.line fault (told_line f.number f.line f.there') s.words (first_is text ports cycles (take f.number lines) f.line fault f.is))
            (stands_in text ports cycles (take b.k lines) t.from t.to b.line other (told_line b.k b.line b.at) t.words b.is) (omega (arith, t.above)) t.within

    no_number : cycles ≤ most_cycles → (fault : StimFault) → IsFault text ports fault → IsBehind fault
    no_number few fault (no_line e) = absurd (absent e)
    no_number few fault (bad_heading line rest at e b) = absurd (no_bad_heading line rest at e b)
    no_number few fault (cycles_range number' more rest h over) = let same = same_heads number' more rest h in absurd (omega (arith, few, over, same.1))
    no_number few fault (bad_setting number' more rest k line at h e b) = behind_bad number' more rest k line at h e b
    no_number few fault (of_line number' more rest k line said fault' h e s f) = behind_line number' more rest k line said fault h e s f

    pub lines_first : cycles ≤ most_cycles → (fault : StimFault) → IsFirstOfLines text ports cycles lines fault → IsFirst place_of rank_of (IsFault text ports) fault
    lines_first few fault f = record { is = is f.is; first = λ other o. lines_before fault other f (no_number few other o) }
      where
        is : IsFirstOfLine text ports cycles (take f.number lines) f.line fault → IsFault text ports fault
        is (inl b) = subst (IsFault text ports) (sym b.2) (bad_setting number cycles lines f.number f.line b.0 heads f.there' b.1)
        is (inr s) = of_line number cycles lines f.number f.line s.0 fault heads f.there' s.1 s.2.is

    pub lines_none : cycles ≤ most_cycles → HaveNoFault text ports cycles lines → HasNone (IsFault text ports)
    lines_none few none fault h =
        let b = no_number few fault h in none_of_line text ports cycles lines b.k b.line fault none b.at b.is
