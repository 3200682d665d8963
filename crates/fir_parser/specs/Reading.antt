-- Names that are apart from one another.
use Rattle.std.specs.Prelude.{ℕ, Bool, true, not, ◌&&◌, List, [], ◌∷◌, bytes_eq}

-- the text is none of the others
abbrev pub is_apart : List ℕ → List (List ℕ) → Bool
is_apart text [] = true
is_apart text (other ∷ others) = not (bytes_eq other text) && is_apart text others
