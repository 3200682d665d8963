-- The lines from an offset on, byte by byte.
use Rattle.std.proofs.Common.{◌≡◌, ℕ, ◌+◌, ◌<◌, ◌≤◌, Bool, true, false, ◌&&◌, not, cond, List, [], ◌∷◌, length, drop, get_or, filter, refl, sym, ap, ◌∙◌, subst, arith}
use Rattle.std.specs.Prelude.{◌==◌}
use Rattle.std.proofs.lemmas.List.{drop_all, drop_more}
use Rattle.place_text.specs.Places.{is_feed}
use Rattle.stimulus.specs.Words.{Word, is_blank, with_byte, on_first, in_front, lines_from, is_told}
use Rattle.stimulus.specs.Reading.{ahead, first_line, told_behind, line_at, lines_after, told_at, is_ink_at}

-- a test on a byte holds of that byte alone
pub test_is : (b n : ℕ) → (b == n) ≡ true → b ≡ n
test_is b n h = grind (arith, h)

pub blank_no_feed : (b : ℕ) (bs : List ℕ) → is_blank b bs ≡ true → is_feed b ≡ false
blank_no_feed b bs h = by (is_feed b) refl
  where
    by : (v : Bool) → is_feed b ≡ v → is_feed b ≡ false
    by false e = e
    by true e = let ten = test_is b 10 e in let no : is_blank 10 bs ≡ true = subst (λ (x : ℕ). is_blank x bs ≡ true) ten h in cc

abbrev others : List (List Word) → List (List Word)
others [] = []
others (line ∷ lines) = lines

-- there is a line always
abbrev IsWhole : List (List Word) → Type 0
IsWhole lines = lines ≡ first_line lines ∷ others lines

in_front-whole : (feed blank : Bool) (f : List Word → List Word) (lines : List (List Word)) → IsWhole lines
    → IsWhole (cond feed ([] ∷ lines) (cond blank lines (on_first f lines)))
in_front-whole true blank f lines h = refl
in_front-whole false true f lines h = h
in_front-whole false false f [] h = cc
in_front-whole false false f (line ∷ lines) h = refl

whole : (at : ℕ) (bs : List ℕ) → IsWhole (lines_from at bs)
whole at [] = refl
whole at (b ∷ bs) = in_front-whole (is_feed b) (is_blank b bs) (with_byte at b) (lines_from (at + 1) bs) (whole (at + 1) bs)

-- the told lines from an offset on: the line there, if it is told, and those behind it
pub told_at-split : (text : List ℕ) (at : ℕ) → told_at text at ≡ cond (is_told (line_at text at)) (line_at text at ∷ lines_after text at) (lines_after text at)
unfolding told_at line_at lines_after
told_at-split text at = ap (filter is_told) (whole at (drop at text)) ∙ same (lines_from at (drop at text))
  where
    same : (lines : List (List Word)) → filter is_told (first_line lines ∷ others lines) ≡ cond (is_told (first_line lines)) (first_line lines ∷ told_behind lines) (told_behind lines)
    same [] = refl
    same (line ∷ lines) = refl

pub told_none : (text : List ℕ) (at : ℕ) → is_told (line_at text at) ≡ false → told_at text at ≡ lines_after text at
told_none text at h = let s = told_at-split text at in s ∙ ap (λ b. cond b (line_at text at ∷ lines_after text at) (lines_after text at)) h

pub told_some : (text : List ℕ) (at : ℕ) → is_told (line_at text at) ≡ true → told_at text at ≡ line_at text at ∷ lines_after text at
told_some text at h = let s = told_at-split text at in s ∙ ap (λ b. cond b (line_at text at ∷ lines_after text at) (lines_after text at)) h

-- at the end of the text
pub ahead_end : (text : List ℕ) (at : ℕ) → length text ≤ at → ahead text at ≡ [] ∷ []
unfolding ahead
ahead_end text at h = ap (lines_from at) (drop_all at text h)

pub line_at-ahead : (text : List ℕ) (at : ℕ) → line_at text at ≡ first_line (ahead text at)
unfolding line_at ahead
line_at-ahead text at = refl

pub lines_after-ahead : (text : List ℕ) (at : ℕ) → lines_after text at ≡ told_behind (ahead text at)
unfolding lines_after ahead
lines_after-ahead text at = refl

pub told_at-ahead : (text : List ℕ) (at : ℕ) → told_at text at ≡ filter is_told (ahead text at)
unfolding told_at ahead
told_at-ahead text at = refl

pub told_at_end : (text : List ℕ) (at : ℕ) → length text ≤ at → told_at text at ≡ []
told_at_end text at h = told_at-ahead text at ∙ ap (filter is_told) (ahead_end text at h)

pub lines_after_end : (text : List ℕ) (at : ℕ) → length text ≤ at → lines_after text at ≡ []
lines_after_end text at h = lines_after-ahead text at ∙ ap told_behind (ahead_end text at h)

pub line_at_end : (text : List ℕ) (at : ℕ) → length text ≤ at → line_at text at ≡ []
line_at_end text at h = line_at-ahead text at ∙ ap first_line (ahead_end text at h)

-- one byte further
pub ahead_step : (text : List ℕ) (at : ℕ) → at < length text → ahead text at ≡ in_front at (get_or text at 0) (drop (at + 1) text) (ahead text (at + 1))
unfolding ahead
ahead_step text at h = ap (lines_from at) (drop_more text at 0 h)

pub ahead_blank : (text : List ℕ) (at : ℕ) → at < length text → is_blank (get_or text at 0) (drop (at + 1) text) ≡ true → ahead text at ≡ ahead text (at + 1)
ahead_blank text at h blank =
    let no = blank_no_feed (get_or text at 0) (drop (at + 1) text) blank in
    ahead_step text at h ∙ by (is_feed (get_or text at 0)) (is_blank (get_or text at 0) (drop (at + 1) text)) no blank
  where
    by : (feed blank : Bool) → feed ≡ false → blank ≡ true
        → cond feed ([] ∷ ahead text (at + 1)) (cond blank (ahead text (at + 1)) (on_first (with_byte at (get_or text at 0)) (ahead text (at + 1)))) ≡ ahead text (at + 1)
    by false true e f = refl
    by true b e f = cc
    by false false e f = cc

pub ahead_feed : (text : List ℕ) (at : ℕ) → at < length text → get_or text at 0 ≡ 10 → ahead text at ≡ [] ∷ ahead text (at + 1)
ahead_feed text at h ten = ahead_step text at h ∙ ap (λ b. in_front at b (drop (at + 1) text) (ahead text (at + 1))) ten

pub feed_step : (text : List ℕ) (at : ℕ) → at < length text → get_or text at 0 ≡ 10 → told_at text (at + 1) ≡ lines_after text at
feed_step text at h ten = told_at-ahead text (at + 1) ∙ sym (lines_after-ahead text at ∙ ap told_behind (ahead_feed text at h ten))

on_first-behind : (f : List Word → List Word) (lines : List (List Word)) → told_behind (on_first f lines) ≡ told_behind lines
on_first-behind f [] = refl
on_first-behind f (line ∷ lines) = refl

on_first-first : (f : List Word → List Word) (lines : List (List Word)) → IsWhole lines → first_line (on_first f lines) ≡ f (first_line lines)
on_first-first f [] h = cc
on_first-first f (line ∷ lines) h = refl

-- a byte that is no line feed leaves the lines behind its line
pub other_step : (text : List ℕ) (at : ℕ) → at < length text → is_feed (get_or text at 0) ≡ false → lines_after text (at + 1) ≡ lines_after text at
other_step text at h other =
    lines_after-ahead text (at + 1) ∙ sym (lines_after-ahead text at ∙ ap told_behind (ahead_step text at h) ∙ by (is_feed (get_or text at 0)) (is_blank (get_or text at 0) (drop (at + 1) text)) other)
  where
    by : (feed blank : Bool) → feed ≡ false
        → told_behind (cond feed ([] ∷ ahead text (at + 1)) (cond blank (ahead text (at + 1)) (on_first (with_byte at (get_or text at 0)) (ahead text (at + 1))))) ≡ told_behind (ahead text (at + 1))
    by false true e = refl
    by false false e = on_first-behind (with_byte at (get_or text at 0)) (ahead text (at + 1))
    by true b e = cc

ink_parts : (feed blank : Bool) → not feed && not blank ≡ true → (feed ≡ false) × (blank ≡ false)
ink_parts false false h = (refl, refl)
ink_parts false true h = cc
ink_parts true b h = cc

ahead-whole : (text : List ℕ) (at : ℕ) → IsWhole (ahead text at)
unfolding ahead
ahead-whole text at = whole at (drop at text)

-- a byte of a word
pub ink_step : (text : List ℕ) (at : ℕ) → at < length text → is_ink_at text at ≡ true → line_at text at ≡ with_byte at (get_or text at 0) (line_at text (at + 1))
ink_step text at h ink =
    let parts = ink_parts (is_feed (get_or text at 0)) (is_blank (get_or text at 0) (drop (at + 1) text)) ink in
    line_at-ahead text at ∙ ap first_line (ahead_step text at h)
    ∙ by (is_feed (get_or text at 0)) (is_blank (get_or text at 0) (drop (at + 1) text)) parts.0 parts.1
    ∙ ap (with_byte at (get_or text at 0)) (sym (line_at-ahead text (at + 1)))
  where
    by : (feed blank : Bool) → feed ≡ false → blank ≡ false
        → first_line (cond feed ([] ∷ ahead text (at + 1)) (cond blank (ahead text (at + 1)) (on_first (with_byte at (get_or text at 0)) (ahead text (at + 1))))) ≡ with_byte at (get_or text at 0) (first_line (ahead text (at + 1)))
    by false false e f = on_first-first (with_byte at (get_or text at 0)) (ahead text (at + 1)) (ahead-whole text (at + 1))
    by true b e f = cc
    by false true e f = cc

pub ink_after : (text : List ℕ) (at : ℕ) → at < length text → is_ink_at text at ≡ true → lines_after text at ≡ lines_after text (at + 1)
ink_after text at h ink = sym (other_step text at h (ink_parts (is_feed (get_or text at 0)) (is_blank (get_or text at 0) (drop (at + 1) text)) ink).0)
