-- Where the lines of a text begin.
use Rattle.std.specs.Prelude.{◌≡◌, ℕ, zero, suc, ◌+◌, ◌-◌, ◌≤◌, List, [], ◌∷◌, ◌++◌, cond, length, slice_index}
use Rattle.place_text.specs.Places.{is_feed, place}

-- The offsets up to this one where a line begins, in order: 0, and each that stands directly behind a line feed.
abbrev pub starts_to : List ℕ → ℕ → List ℕ
starts_to text zero = 0 ∷ []
starts_to text (suc offset) = starts_to text offset ++ cond (is_feed (slice_index text offset)) (suc offset ∷ []) []

-- the offsets of a text where a line begins
abbrev pub line_starts : List ℕ → List ℕ
line_starts text = starts_to text (length text)

-- a table of the lines that holds each or hasn't been made
abbrev pub AreLines : List ℕ → List ℕ → Type 0
AreLines text lines = ¬ (lines ≡ []) → lines ≡ line_starts text

-- So many lines begin at or before the offset, and the last of them gives its place.
pub record IsLine (text lines : List ℕ) (offset line : ℕ) : Type 0 where
  pub some : 1 ≤ line
  pub within : line ≤ length lines
  pub few : line ≤ offset + 1
  pub below : slice_index lines (line - 1) ≤ offset
  pub is : place text offset ≡ record { line = line; column = offset - slice_index lines (line - 1) + 1 }
