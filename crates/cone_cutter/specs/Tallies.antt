-- Counts of bits, in planes: a word for each binary digit.
use Rattle.std.specs.Prelude.{ℕ, ◌+◌, ◌*◌, List, [], ◌∷◌}
use Rattle.std.specs.Int.{bit_at}

-- the count of the bit p: the number whose binary digits, the lowest first, are the bits p of the planes
abbrev pub tallied : List ℕ → ℕ → ℕ
tallied [] p = 0
tallied (plane ∷ planes) p = bit_at plane p + 2 * tallied planes p
