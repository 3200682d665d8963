-- Costs of parts by counts. A row stands for each sink: the part that has it, and its cone, as a test of assignments.
use Rattle.std.specs.Prelude.{◌≡◌, ◌≢◌, ℕ, ◌<◌, ◌==◌, ◌&&◌, nat_lt, Bool, true, List, length, slice_get, slice_index, slice_set, count_by, map, Contains, Some}
use Rattle.std.specs.List.{range_with_len}

abbrev pub SinkRow : Type 0
SinkRow = ℕ × (ℕ → Bool)

-- how many sinks of a part need an assignment
abbrev pub needing : ℕ → ℕ → List SinkRow → ℕ
needing p x rows = count_by (λ r. (r.0 == p) && r.1 x) rows

-- The cost of a part: how many of these assignments some sink of it needs.
abbrev pub cost : ℕ → List ℕ → List SinkRow → ℕ
cost p xs rows = count_by (λ x. nat_lt 0 (needing p x rows)) xs

-- a sink in another part
abbrev pub put : SinkRow → ℕ → SinkRow
put r t = (t, r.1)

abbrev pub moved : List SinkRow → ℕ → SinkRow → ℕ → List SinkRow
moved rows s r t = slice_set rows s (put r t)

-- what a part loses with a sink: the assignments that no other sink of it needs; and what it gains
abbrev pub lost : ℕ → List ℕ → List SinkRow → SinkRow → ℕ
lost p xs rows r = count_by (λ x. r.1 x && (needing p x rows == 1)) xs

abbrev pub gained : ℕ → List ℕ → List SinkRow → SinkRow → ℕ
gained p xs rows r = count_by (λ x. r.1 x && (needing p x rows == 0)) xs

-- the costs of so many parts
abbrev pub costs : ℕ → List ℕ → List SinkRow → List ℕ
costs workers xs rows = map (λ p. cost p xs rows) (range_with_len 0 workers)

-- The rows are of these owners and cones: sink by sink, its part and a test of its cone. The assignments that cones have stand in a list, each once.
pub record AreRowsOf (cone : ℕ → ℕ → Type 0) (owners xs : List ℕ) (rows : List SinkRow) : Type 0 where
  pub long : length rows ≡ length owners
  pub owned : (k : ℕ) (r : SinkRow) → slice_get rows k ≡ Some r → slice_index owners k ≡ r.0
  pub to_cone : (k x : ℕ) (r : SinkRow) → slice_get rows k ≡ Some r → r.1 x ≡ true → cone k x
  pub from_cone : (k x : ℕ) (r : SinkRow) → slice_get rows k ≡ Some r → cone k x → r.1 x ≡ true
  pub listed : (k x : ℕ) → cone k x → Contains xs x
  pub once : (j k : ℕ) → j < k → k < length xs → slice_index xs j ≢ slice_index xs k
