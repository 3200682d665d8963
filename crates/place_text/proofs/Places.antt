-- Laws of places, and worked examples.
use Rattle.std.proofs.Common.{◌≡◌, ℕ, ◌+◌, ◌-◌, ◌<◌, ◌≤◌, true, false, not, List, ◌++◌, length, take, get_or, count_by, refl, ap, ap₂, ◌∙◌, arith, codes}
use Rattle.std.proofs.lemmas.List.{take-append-le}
use Rattle.std.proofs.lemmas.List.Sums.{count_by_more_yes, count_by_more_no, suffix_len-take_yes, suffix_len-take_no}
use Rattle.std.specs.List.{suffix_len}
use Rattle.place_text.specs.declared.place.Place.{Place}
use Rattle.place_text.specs.Places.{is_feed, place, first_place}

-- a text begins at line 1, column 1
pub place-start : (text : List ℕ) → place text 0 ≡ first_place
unfolding place
place-start text = refl

-- the bytes since the last line feed
abbrev since : List ℕ → ℕ
since = suffix_len (λ byte. not (is_feed byte))

-- a place has to do with the bytes before it alone
pub place-append : (before after : List ℕ) (offset : ℕ) → offset ≤ length before → place (before ++ after) offset ≡ place before offset
unfolding place
place-append before after offset within =
    let same : take offset (before ++ after) ≡ take offset before = take-append-le offset before after within in
    let P : List ℕ → Place = λ bytes. record { line = 1 + count_by is_feed bytes; column = 1 + since bytes } in
    ap P same

one_back : (offset : ℕ) → offset + 1 - 1 ≡ offset
one_back offset = omega arith

-- a line feed is the last byte of its line, and the next line begins behind it
pub place-feed : (text : List ℕ) (offset : ℕ) → offset < length text → get_or text offset 0 ≡ 10
    → place text (offset + 1) ≡ record { line = (place text offset).line + 1; column = 1 }
unfolding place
place-feed text offset within feed =
    let yes : is_feed (get_or text offset 0) ≡ true = ap is_feed feed in
    let no : not (is_feed (get_or text (offset + 1 - 1) 0)) ≡ false = ap (λ k. not (is_feed (get_or text k 0))) (one_back offset) ∙ ap not yes in
    let lines : count_by is_feed (take (offset + 1) text) ≡ count_by is_feed (take offset text) + 1 = count_by_more_yes is_feed text offset 0 within yes in
    let none : since (take (offset + 1) text) ≡ 0 = suffix_len-take_no (λ byte. not (is_feed byte)) text (offset + 1) 0 (omega arith) (omega arith) no in
    let P : ℕ → ℕ → Place = λ line column. record { line = line; column = column } in
    ap₂ P (omega arith) (omega arith)

-- behind another byte the column is one more
pub place-byte : (text : List ℕ) (offset : ℕ) → offset < length text → is_feed (get_or text offset 0) ≡ false
    → place text (offset + 1) ≡ record { line = (place text offset).line; column = (place text offset).column + 1 }
unfolding place
place-byte text offset within other =
    let lines : count_by is_feed (take (offset + 1) text) ≡ count_by is_feed (take offset text) = count_by_more_no is_feed text offset 0 within other in
    let yes : not (is_feed (get_or text (offset + 1 - 1) 0)) ≡ true = ap (λ k. not (is_feed (get_or text k 0))) (one_back offset) ∙ ap not other in
    let more : since (take (offset + 1) text) ≡ 1 + since (take (offset + 1 - 1) text) = suffix_len-take_yes (λ byte. not (is_feed byte)) text (offset + 1) 0 (omega arith) (omega arith) yes in
    let same : since (take (offset + 1 - 1) text) ≡ since (take offset text) = ap (λ k. since (take k text)) (one_back offset) in
    let P : ℕ → ℕ → Place = λ line column. record { line = line; column = column } in
    ap₂ P (omega arith) (omega arith)

-- in `a`, a line feed, `bc` the byte `c` is the second of the second line, and the line feed the second byte of the first
example_c : place (codes "a\nbc") 3 ≡ record { line = 2; column = 2 }
unfolding place
example_c = refl

example_feed : place (codes "a\nbc") 1 ≡ record { line = 1; column = 2 }
unfolding place
example_feed = refl
