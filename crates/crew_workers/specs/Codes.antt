-- When a worker's part of a script is what its code does under some input rows.
use Rattle.std.specs.Prelude.{◌≡◌, ℕ, ◌<◌, ◌≤◌, ◌+◌, ◌/◌, ◌%◌, List, [], length, slice_index_or, vec_capacity, Vec}
use Rattle.bit_words.specs.declared.value.Value.{Value}
use Rattle.phase_core.specs.declared.model.Script.{Script}
use Rattle.phase_core.specs.Script.{publications, values}
use Rattle.flat_code.specs.declared.code.Code.{Code}
use Rattle.flat_code.specs.Codes.{published_by, outputs_by, most_outputs}
use Rattle.phase_core.specs.declared.model.Publication.{Publication}
use Rattle.phase_core.specs.declared.model.View.{View}
use Rattle.std.specs.declared.alloc.Global.{Global}

-- the input row of the cycle c
abbrev pub row_at : List (List Value) → ℕ → List Value
row_at rows c = slice_index_or rows c []

-- in each cycle the worker publishes what its code publishes
pub record Follows (s : Script) (number : ℕ) (code : Code) (rows : List (List Value)) : Type 0 where
  pub each_cycle : length rows ≡ s.cycles
  pub words_are : length s.first ≡ code.words
  pub published : (c : ℕ) → c < s.cycles → publications s c number ≡ published_by code (values s c) (row_at rows c)

-- these rows are the outputs of the code in the first cycles, one row per cycle
pub record Recorded (s : Script) (code : Code) (rows outputs : List (List Value)) : Type 0 where
  pub few : length outputs ≤ s.cycles
  pub each : (c : ℕ) → c < length outputs → slice_index_or outputs c [] ≡ outputs_by code (values s c) (row_at rows c)

-- each of these has room for the outputs of the code
pub record Spare (code : Code) (spares : List (Vec Value Global)) : Type 0 where
  pub each : (k : ℕ) (d : Vec Value Global) → k < length spares → most_outputs code ≤ vec_capacity (slice_index_or spares k d)

-- where n cycles are recorded, these are the publications of the last
pub record Kept (s : Script) (number n : ℕ) (ps : List Publication) : Type 0 where
  pub last : (c : ℕ) → n ≡ c + 1 → ps ≡ publications s c number

-- how many cycles are recorded where a worker stands: it evaluates in the even phase, before it arrives
pub record Pace (v : View) (n : ℕ) : Type 0 where
  pub odd : v.passed % 2 ≡ 1 → n ≡ v.passed / 2 + 1
  pub least : v.passed / 2 ≤ n
  pub most : n ≤ v.passed / 2 + 1
  pub arrived : v.arrivals ≡ v.passed + 1 → n ≡ v.passed / 2 + 1
