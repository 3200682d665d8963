-- Where words stand: lines one behind the other, and words one behind the other in a line.
use Rattle.std.proofs.Common.{◌≡◌, ℕ, zero, suc, ◌+◌, ◌<◌, ◌≤◌, Bool, true, false, cond, List, [], ◌∷◌, length, filter, refl, sym, ◌∙◌, subst, arith, ⊎_elim}
use Rattle.std.specs.Prelude.{◌==◌, ⊤, slice_get, Some}
use Rattle.place_text.specs.Places.{is_feed}
use Rattle.stimulus.specs.Words.{Word, behind, is_blank, with_byte, on_first, in_front, lines_from, is_told, told_lines}
use Rattle.stimulus.specs.Forms.{Form, Breaks}

-- words of a line between two offsets
abbrev pub Within : ℕ → ℕ → List Word → Type 0
Within low high [] = low ≤ high
Within low high (w ∷ ws) = (low ≤ w.at) × (0 < length w.bytes) × Within (behind w) high ws

-- lines from an offset on, with at least a byte between two, none past a limit
abbrev pub Apart : ℕ → ℕ → List (List Word) → Type 0
Apart limit low [] = ⊤
Apart limit low (line ∷ lines) = (high : ℕ) × Within low high line × (high ≤ limit) × Apart limit (high + 1) lines

pub within-le : (low high : ℕ) (ws : List Word) → Within low high ws → low ≤ high
within-le low high [] h = h
within-le low high (w ∷ ws) h = let rest = within-le (behind w) high ws h.2 in omega (arith, h.0, rest)

within_lower : (low less high : ℕ) (ws : List Word) → less ≤ low → Within low high ws → Within less high ws
within_lower low less high [] le h = omega (arith, le, h)
within_lower low less high (w ∷ ws) le h = (omega (arith, le, h.0), h.1, h.2)

apart_lower : (limit low less : ℕ) (lines : List (List Word)) → less ≤ low → Apart limit low lines → Apart limit less lines
apart_lower limit low less [] le h = tt
apart_lower limit low less (line ∷ lines) le h = (h.0, within_lower low less h.0 line le h.1, h.2, h.3)

with_byte-within : (at high b : ℕ) (ws : List Word) → Within (at + 1) high ws → Within at high (with_byte at b ws)
with_byte-within at high b [] h = (omega arith, omega arith, h)
with_byte-within at high b (w ∷ ws) h = by (w.at == at + 1) refl
  where
    by : (v : Bool) → (w.at == at + 1) ≡ v
        → Within at high (cond v (record { at = at; bytes = b ∷ w.bytes } ∷ ws) (record { at = at; bytes = b ∷ [] } ∷ w ∷ ws))
    by true e =
        let here : w.at ≡ at + 1 = grind (arith, e) in
        (omega arith, omega arith, subst (λ n. Within n high ws) (omega (arith, here)) h.2)
    by false e = (omega arith, omega arith, h)

in_front-apart : (limit at b : ℕ) (bs : List ℕ) (lines : List (List Word)) → at + 1 ≤ limit → Apart limit (at + 1) lines → Apart limit at (in_front at b bs lines)
in_front-apart limit at b bs lines le h = by (is_feed b) (is_blank b bs)
  where
    first : (lines : List (List Word)) → Apart limit (at + 1) lines → Apart limit at (on_first (with_byte at b) lines)
    first [] h = tt
    first (line ∷ lines) h = (h.0, with_byte-within at h.0 b line h.1, h.2, h.3)

    by : (feed blank : Bool) → Apart limit at (cond feed ([] ∷ lines) (cond blank lines (on_first (with_byte at b) lines)))
    by true blank = (at, omega arith, omega (arith, le), h)
    by false true = apart_lower limit (at + 1) at lines (omega arith) h
    by false false = first lines h

pub lines_from-apart : (limit at : ℕ) (bs : List ℕ) → at + length bs ≡ limit → Apart limit at (lines_from at bs)
lines_from-apart limit at [] e = (at, omega arith, omega (arith, e), tt)
lines_from-apart limit at (b ∷ bs) e = in_front-apart limit at b bs (lines_from (at + 1) bs) (omega (arith, e)) (lines_from-apart limit (at + 1) bs (omega (arith, e)))

filter-apart : (limit low : ℕ) (lines : List (List Word)) → Apart limit low lines → Apart limit low (filter is_told lines)
filter-apart limit low [] h = tt
filter-apart limit low (line ∷ lines) h = by (filter-apart limit (h.0 + 1) lines h.3) (is_told line)
  where
    by : Apart limit (h.0 + 1) (filter is_told lines) → (v : Bool) → Apart limit low (cond v (line ∷ filter is_told lines) (filter is_told lines))
    by rest true = (h.0, h.1, h.2, rest)
    by rest false = apart_lower limit (h.0 + 1) low (filter is_told lines) (let le = within-le low h.0 line h.1 in omega (arith, le)) rest

pub told_lines-apart : (text : List ℕ) → Apart (length text) 0 (told_lines text)
told_lines-apart text = filter-apart (length text) 0 (lines_from 0 text) (lines_from-apart (length text) 0 text (omega arith))

-- a line that is told has a word
filter-told : (lines : List (List Word)) (k : ℕ) (line : List Word) → slice_get (filter is_told lines) k ≡ Some line → is_told line ≡ true
filter-told [] k line e = cc
filter-told (l ∷ ls) k line e = by (λ k e. filter-told ls k line e) (is_told l) refl k e
  where
    by : ((k : ℕ) → slice_get (filter is_told ls) k ≡ Some line → is_told line ≡ true)
        → (v : Bool) → is_told l ≡ v → (k : ℕ) → slice_get (cond v (l ∷ filter is_told ls) (filter is_told ls)) k ≡ Some line → is_told line ≡ true
    by rest true t zero e = let same : l ≡ line = cc in subst (λ (x : List Word). is_told x ≡ true) same t
    by rest true t (suc k) e = rest k e
    by rest false t k e = rest k e

pub told_lines-told : (text : List ℕ) (k : ℕ) (line : List Word) → slice_get (told_lines text) k ≡ Some line → is_told line ≡ true
told_lines-told text k line e = filter-told (lines_from 0 text) k line e

-- a line among lines apart
pub record Span (limit low : ℕ) (line : List Word) : Type 0 where
  pub from : ℕ
  pub to : ℕ
  pub words : Within from to line
  pub above : low ≤ from
  pub within : to ≤ limit

pub span : (limit low : ℕ) (lines : List (List Word)) (k : ℕ) (line : List Word) → Apart limit low lines → slice_get lines k ≡ Some line → Span limit low line
span limit low [] k line h e = cc
span limit low (l ∷ ls) zero line h e =
    let same : l ≡ line = cc in record { from = low; to = h.0; words = subst (Within low h.0) same h.1; above = omega arith; within = h.2 }
span limit low (l ∷ ls) (suc k) line h e =
    let later = span limit (h.0 + 1) ls k line h.3 e in
    let le = within-le low h.0 l h.1 in
    record { from = later.from; to = later.to; words = later.words; above = omega (arith, later.above, le); within = later.within }

-- two lines among lines apart
pub record Two (limit low : ℕ) (line other : List Word) : Type 0 where
  pub first : Span limit low line
  pub second : Span limit (first.to + 1) other

pub two : (limit low : ℕ) (lines : List (List Word)) (k j : ℕ) (line other : List Word) → Apart limit low lines → k < j → slice_get lines k ≡ Some line → slice_get lines j ≡ Some other → Two limit low line other
two limit low [] k j line other h lt e f = cc
two limit low (l ∷ ls) zero zero line other h lt e f = absurd (omega (arith, lt))
two limit low (l ∷ ls) zero (suc j) line other h lt e f =
    let same : l ≡ line = cc in
    record { first = record { from = low; to = h.0; words = subst (Within low h.0) same h.1; above = omega arith; within = h.2 }; second = span limit (h.0 + 1) ls j other h.3 f }
two limit low (l ∷ ls) (suc k) zero line other h lt e f = absurd (omega (arith, lt))
two limit low (l ∷ ls) (suc k) (suc j) line other h lt e f =
    let later = two limit (h.0 + 1) ls k j line other h.3 (omega (arith, lt)) e f in
    let le = within-le low h.0 l h.1 in
    let s = later.first in
    record { first = record { from = s.from; to = s.to; words = s.words; above = omega (arith, s.above, le); within = s.within }; second = later.second }

-- a line breaks its form between its ends
breaks_between : (forms : List Form) (low high : ℕ) (ws : List Word) (at : ℕ) → Within low high ws → Breaks forms low ws at → (low ≤ at) × (at ≤ high)
breaks_between [] low high [] at h b = absurd b
breaks_between [] low high (w ∷ ws) at h b = let le = within-le (behind w) high ws h.2 in (omega (arith, h.0, b), omega (arith, b, le))
breaks_between (f ∷ fs) low high [] at h b = (omega (arith, b), omega (arith, b, h))
breaks_between (f ∷ fs) low high (w ∷ ws) at h b =
    ⊎_elim (λ l. let le = within-le (behind w) high ws h.2 in (omega (arith, h.0, l.1), omega (arith, l.1, le)))
    (λ r. let t = breaks_between fs (behind w) high ws at h.2 r.1 in (omega (arith, h.0, t.0), t.1)) b

pub breaks_within : (f : Form) (fs : List Form) (low high : ℕ) (ws : List Word) (at : ℕ) → is_told ws ≡ true → Within low high ws → Breaks (f ∷ fs) 0 ws at → (low ≤ at) × (at ≤ high)
breaks_within f fs low high [] at t h b = cc
breaks_within f fs low high (w ∷ ws) at t h b = breaks_between (f ∷ fs) low high (w ∷ ws) at h b

-- it breaks it once
pub breaks_once : (forms : List Form) (end : ℕ) (ws : List Word) (at other : ℕ) → Breaks forms end ws at → Breaks forms end ws other → at ≡ other
breaks_once [] end [] at other b c = absurd b
breaks_once [] end (w ∷ ws) at other b c = b ∙ sym c
breaks_once (f ∷ fs) end [] at other b c = b ∙ sym c
breaks_once (f ∷ fs) end (w ∷ ws) at other b c =
    ⊎_elim (λ l. ⊎_elim (λ m. l.1 ∙ sym m.1) (λ n. absurd (l.0 n.0)) c)
    (λ r. ⊎_elim (λ m. absurd (m.0 r.0)) (λ n. breaks_once fs (behind w) ws at other r.1 n.1) c) b
