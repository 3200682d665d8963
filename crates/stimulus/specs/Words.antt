-- The lines of a text and their words. White space separates words: the space, the tab, and a carriage return directly before a line feed.
-- A line ends at a line feed, or at the end of the text.
use Rattle.std.specs.Prelude.{ℕ, ◌+◌, ◌==◌, ◌||◌, ◌&&◌, not, Bool, false, if◌then◌else◌, List, [], ◌∷◌, length, filter}
use Rattle.place_text.specs.Places.{is_feed}

-- a word: the offset of its first byte in the text, and its bytes
pub record Word : Type 0 where
  pub at : ℕ
  pub bytes : List ℕ

-- the offset directly behind a word
abbrev pub behind : Word → ℕ
behind word = word.at + length word.bytes

abbrev pub begins_with : (ℕ → Bool) → List ℕ → Bool
begins_with test [] = false
begins_with test (b ∷ bs) = test b

-- whether a byte with these behind it is white space
abbrev pub is_blank : ℕ → List ℕ → Bool
is_blank b bs = (b == 32) || ((b == 9) || ((b == 13) && begins_with is_feed bs))

-- A byte of a word in front of the words of its line: it belongs to the word that begins directly behind it, or is one by itself.
abbrev pub with_byte : ℕ → ℕ → List Word → List Word
with_byte at b [] = record { at = at; bytes = b ∷ [] } ∷ []
with_byte at b (w ∷ ws) = if w.at == at + 1 then record { at = at; bytes = b ∷ w.bytes } ∷ ws else record { at = at; bytes = b ∷ [] } ∷ w ∷ ws

abbrev pub on_first : (List Word → List Word) → List (List Word) → List (List Word)
on_first f [] = []
on_first f (line ∷ lines) = f line ∷ lines

-- A byte at an offset, with these bytes behind it, in front of lines: a line feed ends a line.
abbrev pub in_front : ℕ → ℕ → List ℕ → List (List Word) → List (List Word)
in_front at b bs lines = if is_feed b then [] ∷ lines else if is_blank b bs then lines else on_first (with_byte at b) lines

-- the lines of the bytes from an offset on, each as its words
abbrev pub lines_from : ℕ → List ℕ → List (List Word)
lines_from at [] = [] ∷ []
lines_from at (b ∷ bs) = in_front at b bs (lines_from (at + 1) bs)

-- Blank lines, and lines whose first word begins with a semicolon, are skipped.
abbrev pub is_told : List Word → Bool
is_told [] = false
is_told (w ∷ ws) = not (begins_with (λ b. b == 59) w.bytes)

-- the lines of a text that aren't skipped
abbrev pub told_lines : List ℕ → List (List Word)
told_lines text = filter is_told (lines_from 0 text)
