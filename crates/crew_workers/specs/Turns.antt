-- The codes of an epoch that runs on one thread.
use Rattle.std.specs.Prelude.{◌≡◌, ℕ, ◌<◌, ◌≤◌, List, map, length, slice_index, slice_index_or, vec_capacity}
use Rattle.bit_words.specs.declared.value.Value.{Value}
use Rattle.phase_core.specs.declared.model.Publication.{Publication}
use Rattle.flat_code.specs.declared.code.Code.{Code}
use Rattle.flat_code.specs.declared.running.Effects.{Effects}
use Rattle.flat_code.specs.Codes.{published_by, outputs_by, most_publications, most_outputs, frame_length}

-- the effects have room for those of each code
pub record Roomy (codes : List Code) (effects : List Effects) : Type 0 where
  pub many : length effects ≡ length codes
  pub publications : (k : ℕ) (d : Code) (e : Effects) → k < length codes → most_publications (slice_index_or codes k d) ≤ vec_capacity (slice_index_or effects k e).publications
  pub outputs : (k : ℕ) (d : Code) (e : Effects) → k < length codes → most_outputs (slice_index_or codes k d) ≤ vec_capacity (slice_index_or effects k e).outputs

-- the first n effects are those of a cycle
pub record Evaluated (codes : List Code) (ws : List ℕ) (x : List Value) (effects : List Effects) (n : ℕ) : Type 0 where
  pub publications : (k : ℕ) (d : Code) (e : Effects) → k < n → (slice_index_or effects k e).publications.items ≡ published_by (slice_index_or codes k d) ws x
  pub outputs : (k : ℕ) (d : Code) (e : Effects) → k < n → (slice_index_or effects k e).outputs.items ≡ outputs_by (slice_index_or codes k d) ws x

abbrev pub parts_of : List Effects → List (List Publication)
parts_of effects = map (λ e. e.publications.items) effects

-- the row has each output of the first n codes at its position
pub record RowFrom (codes : List Code) (effects : List Effects) (row : List Value) (n : ℕ) : Type 0 where
  pub each : (k j : ℕ) (d : Code) (e : Effects) (v : Value) → k < n → j < length (slice_index_or codes k d).positions
      → slice_index_or row (slice_index (slice_index_or codes k d).positions j) v ≡ slice_index_or (slice_index_or effects k e).outputs.items j v

-- a frame of this length serves each of these codes
pub record Serves (codes : List Code) (room : ℕ) : Type 0 where
  pub each : (k : ℕ) (d : Code) → k < length codes → frame_length (slice_index_or codes k d) ≤ room
