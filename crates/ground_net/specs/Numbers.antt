-- Numbers of leaves that stand in vectors.
use Rattle.std.specs.Prelude.{◌≡◌, ℕ, ◌<◌, ◌+◌, ◌-◌, ◌*◌, List, [], ◌∷◌, map, flat_map, slice_index, Option, Some, None}
use Rattle.std.specs.List.{range_with_len}
use Rattle.ground_net.specs.declared.stretch.Span.{Span}
use Rattle.ground_net.specs.declared.stretch.Stretch.{Stretch}

-- The numbers of a leaf of the elements of vectors in one another, from its number in the elements with the number 0.
abbrev pub listed : List Span → ℕ → List ℕ
listed [] x = x ∷ []
listed (s ∷ ss) x = flat_map (λ k. listed ss (x + k * s.stride)) (range_with_len 0 s.length)

-- those of a stretch, where there is one
abbrev pub told : Option Stretch → List ℕ
told (Some r) = listed r.spans r.first
told None = []

-- the lengths of the vectors
abbrev pub span_lengths : List Span → List ℕ
span_lengths spans = map (λ s. s.length) spans

-- How far the leaves reach, from the first one on.
abbrev pub extent : List Span → ℕ
extent [] = 1
extent (s ∷ ss) = (s.length - 1) * s.stride + extent ss

-- From each leaf on, up to the one that is told for it, the numbers that stand for leaves rise by 1.
abbrev pub AreRuns : List ℕ → List ℕ → Type 0
AreRuns numbers runs = (x o : ℕ) → x + o < slice_index runs x → slice_index numbers (x + o) ≡ slice_index numbers x + o

-- From this leaf on, up to another one, they do.
abbrev pub HasRun : List ℕ → ℕ → ℕ → Type 0
HasRun numbers x end = (o : ℕ) → x + o < end → slice_index numbers (x + o) ≡ slice_index numbers x + o

-- The leaves of a stretch stay side by side under new numbers.
abbrev pub IsSteady : (ℕ → ℕ) → Stretch → Type 0
IsSteady number r = (o : ℕ) → o < extent r.spans → number (r.first + o) ≡ number r.first + o
