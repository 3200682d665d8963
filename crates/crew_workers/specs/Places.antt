-- The places of the outputs of some codes in a row.
use Rattle.std.specs.Prelude.{◌≡◌, ℕ, ◌<◌, List, length, slice_get, slice_index, slice_index_or, Some, Contains}
use Rattle.flat_code.specs.declared.code.Code.{Code}

-- the positions of the first n codes are below a number
pub record Below (codes : List Code) (n width : ℕ) : Type 0 where
  pub each : (k j : ℕ) (d : Code) → k < n → j < length (slice_index_or codes k d).positions → slice_index (slice_index_or codes k d).positions j < width

-- the number is a position of a code
pub record IsPlace (codes : List Code) (i : ℕ) : Type 0 where
  pub number : ℕ
  pub code : Code
  pub there : slice_get codes number ≡ Some code
  pub here : Contains code.positions i

-- a row of this many values has a place for each position of a code, and no other
pub record HasPlaces (codes : List Code) (width : ℕ) : Type 0 where
  pub below : Below codes (length codes) width
  pub no_other : (i : ℕ) → i < width → IsPlace codes i

-- each position belongs to one output of one code
pub record OwnPlaces (codes : List Code) : Type 0 where
  pub apart : (k i j : ℕ) (d : Code) → k < length codes → i < length (slice_index_or codes k d).positions → j < length (slice_index_or codes k d).positions
      → slice_index (slice_index_or codes k d).positions i ≡ slice_index (slice_index_or codes k d).positions j → i ≡ j
  pub one_code : (k l i j : ℕ) (d e : Code) → k < length codes → l < length codes → i < length (slice_index_or codes k d).positions → j < length (slice_index_or codes l e).positions
      → slice_index (slice_index_or codes k d).positions i ≡ slice_index (slice_index_or codes l e).positions j → k ≡ l
