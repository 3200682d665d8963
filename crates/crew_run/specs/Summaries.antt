-- The summary of a trace: how many bytes it has, and its last line.
use Rattle.std.specs.Prelude.{◌≡◌, ◌≢◌, ◌⊎◌, ℕ, ◌+◌, ◌-◌, ◌<◌, ◌≤◌, List, ◌++◌, length, drop, slice_get, Some, codes, decimal}

-- a line begins at the offset: it is the text's first byte, or stands behind a line feed
abbrev pub BeginsLine : List ℕ → ℕ → Type 0
BeginsLine text at = (at ≡ 0) ⊎ ((0 < at) × (slice_get text (at - 1) ≡ Some 10))

-- from the offset on, only the text's last byte may be a line feed
abbrev pub IsInOneLine : List ℕ → ℕ → Type 0
IsInOneLine text at = (k : ℕ) → at ≤ k → k + 1 < length text → slice_get text k ≢ Some 10

-- the last line of a text that isn't empty, with the line feed that ends it
pub record IsLastLine (text line : List ℕ) : Type 0 where
  pub at : ℕ
  pub some : at < length text
  pub begins : BeginsLine text at
  pub whole : IsInOneLine text at
  pub is : line ≡ drop at text

-- The line `bytes B`, where the trace has B bytes, its header and all line feeds included; and then the trace's last line.
pub record IsSummary (trace summary : List ℕ) : Type 0 where
  pub line : List ℕ
  pub last : IsLastLine trace line
  pub is : summary ≡ codes "bytes " ++ decimal (length trace) ++ codes "\n" ++ line
