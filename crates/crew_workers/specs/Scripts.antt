-- The script of some codes, words and input rows, and its outputs.
use Rattle.std.specs.Prelude.{◌≡◌, ℕ, ◌*◌, ◌^◌, ◌<◌, List, [], ◌∷◌, map, length, slice_index, slice_index_or}
use Rattle.bit_words.specs.declared.value.Value.{Value}
use Rattle.phase_core.specs.declared.model.Script.{Script}
use Rattle.phase_core.specs.declared.model.Publication.{Publication}
use Rattle.phase_core.specs.Script.{values, published_all}
use Rattle.flat_code.specs.declared.code.Code.{Code}
use Rattle.flat_code.specs.Codes.{published_by, outputs_by}
use Rattle.partition_code.specs.Codes.{owners_of, MayRun}
use Rattle.crew_workers.specs.Codes.{row_at}
use Rattle.crew_workers.specs.Places.{HasPlaces}

-- what the codes publish in a cycle that begins with these words
abbrev pub round_by : List Code → List ℕ → List Value → List (List Publication)
round_by codes ws x = map (λ code. published_by code ws x) codes

-- the same, cycle by cycle
abbrev pub rounds_by : List Code → List ℕ → List (List Value) → List (List (List Publication))
rounds_by codes ws [] = []
rounds_by codes ws (x ∷ xs) = round_by codes ws x ∷ rounds_by codes (published_all (round_by codes ws x) ws) xs

-- the script of the codes, from these words on, under these input rows: each word belongs to the code that owns it
abbrev pub script_of : List Code → List ℕ → List (List Value) → Script
script_of codes words rows = record { workers = length codes; cycles = length rows; first = words; owners = owners_of codes (length words); rounds = rounds_by codes words rows }

-- what an epoch asks: all codes of one cut, the words and input rows of its net, and counts that fit
pub record Runs (codes : List Code) (words : List ℕ) (rows : List (List Value)) : Type 0 where
  pub may : MayRun codes words rows
  pub fits : 2 * length rows * length codes < 2 ^ 64

-- the row has each output of each code at its position in the watch list, and nothing else
pub record RowOf (codes : List Code) (ws : List ℕ) (x row : List Value) : Type 0 where
  pub places : HasPlaces codes (length row)
  pub each : (k j : ℕ) (d : Code) (e : Value) → k < length codes → j < length (slice_index_or codes k d).positions
      → slice_index_or row (slice_index (slice_index_or codes k d).positions j) e ≡ slice_index_or (outputs_by (slice_index_or codes k d) ws x) j e

-- one such row for each of the first n cycles
pub record Outputs (s : Script) (codes : List Code) (rows outputs : List (List Value)) (n : ℕ) : Type 0 where
  pub many : length outputs ≡ n
  pub each : (c : ℕ) → c < n → RowOf codes (values s c) (row_at rows c) (slice_index_or outputs c [])
