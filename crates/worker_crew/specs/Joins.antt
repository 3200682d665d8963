-- The rows of an epoch, joined cycle by cycle from those of its codes.
use Rattle.std.specs.Prelude.{◌≡◌, ℕ, ◌<◌, ◌≤◌, List, [], length, slice_index, slice_index_or, slice_set}
use Rattle.bit_words.specs.declared.value.Value.{Value}
use Rattle.flat_code.specs.declared.code.Code.{Code}
use Rattle.crew_workers.specs.Lists.{Through}
use Rattle.crew_workers.specs.Places.{HasPlaces}

-- these are the positions 0, 1, 2 and so on
pub record AreInTurn (positions : List ℕ) : Type 0 where
  pub each : (j : ℕ) → j < length positions → slice_index positions j ≡ j

-- the row of the code k in a cycle
abbrev pub part_row : List (List (List Value)) → ℕ → ℕ → List Value
part_row parts k cycle = slice_index_or (slice_index_or parts k []) cycle []

-- the first n parts let the row of a cycle go
abbrev pub LetGo : ℕ → List (List (List Value)) → List (List (List Value)) → ℕ → Type 0
LetGo cycle old new n = Through (λ k before after. after ≡ slice_set before cycle []) old new n

-- from the cycle n on the parts have the rows that they had
pub record Remain (old new : List (List (List Value))) (n : ℕ) : Type 0 where
  pub many : length new ≡ length old
  pub long : (k : ℕ) → length (slice_index_or new k []) ≡ length (slice_index_or old k [])
  pub each : (k c : ℕ) → n ≤ c → part_row new k c ≡ part_row old k c

-- the row has the outputs of the first n codes in a cycle at their positions
pub record IsJoined (codes : List Code) (parts : List (List (List Value))) (cycle : ℕ) (row : List Value) (n : ℕ) : Type 0 where
  pub each : (k j : ℕ) (d : Code) (v : Value) → k < n → j < length (slice_index_or codes k d).positions → slice_index_or row (slice_index (slice_index_or codes k d).positions j) v ≡ slice_index_or (part_row parts k cycle) j v

-- each row has the places of the codes' outputs, and there the outputs of its cycle
pub record AreJoined (codes : List Code) (parts : List (List (List Value))) (rows : List (List Value)) : Type 0 where
  pub places : (c : ℕ) → c < length rows → HasPlaces codes (length (slice_index_or rows c []))
  pub joined : (c : ℕ) → c < length rows → IsJoined codes parts c (slice_index_or rows c []) (length codes)
