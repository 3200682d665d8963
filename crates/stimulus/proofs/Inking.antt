-- A run of bytes of words is a word.
use Rattle.std.proofs.Common.{◌≡◌, ◌≢◌, ℕ, zero, suc, ◌+◌, ◌-◌, ◌<◌, ◌≤◌, Bool, true, false, ◌&&◌, not, cond, List, [], ◌∷◌, length, take, drop, get_or, refl, sym, ap, ◌∙◌, subst, arith, ⊎_elim, ◌⊎◌, inl, inr}
use Rattle.std.specs.Prelude.{◌==◌, ⊤}
use Rattle.std.proofs.lemmas.List.{drop_more, length-take, length-drop}
use Rattle.std.proofs.lemmas.Bool.{cases_lt}
use Rattle.place_text.specs.Places.{is_feed}
use Rattle.stimulus.specs.Words.{Word, behind, is_blank, with_byte, lines_from}
use Rattle.stimulus.specs.Reading.{ahead, first_line, told_behind, line_at, lines_after, is_ink_at, EndsAt, IsNextWord}
use Rattle.stimulus.proofs.Walking.{test_is, line_at-ahead, lines_after-ahead, line_at_end, ahead_feed, ahead_blank, ink_step, ink_after}
use Rattle.stimulus.proofs.Placing.{Apart, lines_from-apart}

-- no word begins at an offset
abbrev Free : ℕ → List Word → Type 0
Free at [] = ⊤
Free at (w ∷ ws) = at < w.at

apart-free : (limit at : ℕ) (lines : List (List Word)) → Apart limit (at + 1) lines → Free at (first_line lines)
apart-free limit at [] h = tt
apart-free limit at ([] ∷ lines) h = tt
apart-free limit at ((w ∷ ws) ∷ lines) h = omega (arith, h.1.0)

ahead-free : (text : List ℕ) (at : ℕ) → Free at (first_line (ahead text (at + 1)))
unfolding ahead
ahead-free text at = apart-free (at + 1 + length (drop (at + 1) text)) at (lines_from (at + 1) (drop (at + 1) text)) (lines_from-apart (at + 1 + length (drop (at + 1) text)) (at + 1) (drop (at + 1) text) refl)

no_ink : (feed blank : Bool) → not feed && not blank ≡ false → (feed ≡ true) ⊎ (blank ≡ true)
no_ink true blank h = inl refl
no_ink false true h = inr refl
no_ink false false h = cc

-- where no byte of a word stands, no word begins
free : (text : List ℕ) (at : ℕ) → (at < length text → is_ink_at text at ≡ false) → Free at (line_at text at)
free text at stops = ⊎_elim inside (λ past. subst (Free at) (sym (line_at_end text at past)) tt) (cases_lt at (length text))
  where
    inside : at < length text → Free at (line_at text at)
    inside lt =
        ⊎_elim
        (λ feed. subst (Free at) (sym (line_at-ahead text at ∙ ap first_line (ahead_feed text at lt (test_is (get_or text at 0) 10 feed)))) tt)
        (λ blank. subst (Free at) (sym (line_at-ahead text at ∙ ap first_line (ahead_blank text at lt blank))) (ahead-free text at))
        (no_ink (is_feed (get_or text at 0)) (is_blank (get_or text at 0) (drop (at + 1) text)) (stops lt))

with_byte-free : (at b : ℕ) (ws : List Word) → Free (at + 1) ws → with_byte at b ws ≡ record { at = at; bytes = b ∷ [] } ∷ ws
with_byte-free at b [] h = refl
with_byte-free at b (w ∷ ws) h = by (w.at == at + 1) refl
  where
    by : (v : Bool) → (w.at == at + 1) ≡ v
        → cond v (record { at = at; bytes = b ∷ w.bytes } ∷ ws) (record { at = at; bytes = b ∷ [] } ∷ w ∷ ws) ≡ record { at = at; bytes = b ∷ [] } ∷ w ∷ ws
    by true e = let here = test_is w.at (at + 1) e in absurd (omega (arith, here, h))
    by false e = refl

with_byte-grows : (at b : ℕ) (bytes : List ℕ) (ws : List Word) → with_byte at b (record { at = at + 1; bytes = bytes } ∷ ws) ≡ record { at = at; bytes = b ∷ bytes } ∷ ws
with_byte-grows at b bytes ws = by (at + 1 == at + 1) (grind arith)
  where
    by : (v : Bool) → v ≡ true → cond v (record { at = at; bytes = b ∷ bytes } ∷ ws) (record { at = at; bytes = b ∷ [] } ∷ record { at = at + 1; bytes = bytes } ∷ ws) ≡ record { at = at; bytes = b ∷ bytes } ∷ ws
    by true e = refl
    by false e = cc

-- the word of the bytes between two offsets
abbrev pub word_between : List ℕ → ℕ → ℕ → Word
word_between text from to = record { at = from; bytes = take (to - from) (drop from text) }

word_of : ℕ → List ℕ → Word
word_of at bytes = record { at = at; bytes = bytes }

run : (text : List ℕ) (n from to : ℕ) → to ≡ from + suc n → to ≤ length text → ((k : ℕ) → from ≤ k → k < to → is_ink_at text k ≡ true) → Free to (line_at text to)
    → (line_at text from ≡ word_of from (take (suc n) (drop from text)) ∷ line_at text to) × (lines_after text from ≡ lines_after text to)
unfolding word_of
run text zero from to e within inked f =
    let next : from + 1 ≡ to = omega (arith, e) in
    let lt : from < length text = omega (arith, e, within) in
    let ink = inked from (omega arith) (omega (arith, e)) in
    let bytes : take (suc zero) (drop from text) ≡ get_or text from 0 ∷ [] = ap (take (suc zero)) (drop_more text from 0 lt) in
    let step : line_at text from ≡ with_byte from (get_or text from 0) (line_at text to) = ink_step text from lt ink ∙ ap (λ k. with_byte from (get_or text from 0) (line_at text k)) next in
    let single = with_byte-free from (get_or text from 0) (line_at text to) (subst (λ k. Free k (line_at text to)) (sym next) f) in (
      step ∙ single ∙ ap (λ bs. record { at = from; bytes = bs } ∷ line_at text to) (sym bytes),
      ink_after text from lt ink ∙ ap (lines_after text) next,
    )
run text (suc m) from to e within inked f =
    let lt : from < length text = omega (arith, e, within) in
    let ink = inked from (omega arith) (omega (arith, e)) in
    let rest = run text m (from + 1) to (omega (arith, e)) within (λ k le below. inked k (omega (arith, le)) below) f in
    let bytes : take (suc (suc m)) (drop from text) ≡ get_or text from 0 ∷ take (suc m) (drop (from + 1) text) = ap (take (suc (suc m))) (drop_more text from 0 lt) in
    let step : line_at text from ≡ with_byte from (get_or text from 0) (record { at = from + 1; bytes = take (suc m) (drop (from + 1) text) } ∷ line_at text to) =
    ink_step text from lt ink ∙ ap (with_byte from (get_or text from 0)) rest.0 in (
      step ∙ with_byte-grows from (get_or text from 0) (take (suc m) (drop (from + 1) text)) (line_at text to) ∙ ap (λ bs. record { at = from; bytes = bs } ∷ line_at text to) (sym bytes),
      ink_after text from lt ink ∙ rest.1,
    )

pub next_word_is : (text : List ℕ) (from at to : ℕ) → ahead text at ≡ ahead text from → from ≤ at → EndsAt text at to → at ≢ to → IsNextWord text from (word_between text at to)
unfolding word_of
next_word_is text from at to same onward h ne =
    let lt : at < to = omega (arith, h.onward) in
    let long : length (take (to - at) (drop at text)) ≡ to - at = grind (arith, length-take, length-drop, h.within, lt) in
    let end : to ≡ behind (word_between text at to) = omega (arith, long, lt) in
    let r = run text (to - at - 1) at to (omega (arith, lt)) h.within h.inked (free text to h.stops) in
    let size : suc (to - at - 1) ≡ to - at = omega (arith, lt) in
    let first : line_at text from ≡ line_at text at = line_at-ahead text from ∙ ap first_line (sym same) ∙ sym (line_at-ahead text at) in
    record {
      words = first ∙ r.0 ∙ ap (λ n. record { at = at; bytes = take n (drop at text) } ∷ line_at text to) size ∙ ap (λ k. word_between text at to ∷ line_at text k) end;
      after = lines_after-ahead text from ∙ ap told_behind (sym same) ∙ sym (lines_after-ahead text at) ∙ r.1 ∙ ap (lines_after text) end;
      begins = onward;
      some = subst (λ k. at < k) end lt;
      within = subst (λ k. k ≤ length text) end h.within;
    }

pub no_word : (text : List ℕ) (from at to : ℕ) → ahead text at ≡ ahead text from → EndsAt text at to → at ≡ to
    → (at < length text → is_blank (get_or text at 0) (drop (at + 1) text) ≡ false) → line_at text from ≡ []
no_word text from at to same h e blank =
    line_at-ahead text from ∙ ap first_line (sym same) ∙ sym (line_at-ahead text at) ∙ ⊎_elim inside (λ past. line_at_end text at past) (cases_lt at (length text))
  where
    inside : at < length text → line_at text at ≡ []
    inside lt =
        ⊎_elim
        (λ feed. line_at-ahead text at ∙ ap first_line (ahead_feed text at lt (test_is (get_or text at 0) 10 feed)))
        (λ yes. let no = blank lt in cc)
        (no_ink (is_feed (get_or text at 0)) (is_blank (get_or text at 0) (drop (at + 1) text)) (subst (λ k. k < length text → is_ink_at text k ≡ false) (sym e) h.stops lt))
