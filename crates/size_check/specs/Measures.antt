-- What is counted of a part of a circuit, and sums of it.
use Rattle.std.specs.Prelude.{ℕ, ◌+◌, max, List, [], ◌∷◌}
use Rattle.size_check.specs.declared.sums.Sums.{Sums}

abbrev pub nothing : Sums
nothing = record { size = 0; leaves = 0; names = 0; bytes = 0; words = 0 }

abbrev pub plus : Sums → Sums → Sums
plus a b = record { size = a.size + b.size; leaves = a.leaves + b.leaves; names = a.names + b.names; bytes = a.bytes + b.bytes; words = a.words + b.words }

-- all of them together
abbrev pub together : List Sums → Sums
together [] = nothing
together (a ∷ rest) = plus a (together rest)

-- the greatest of some numbers, and 0 where there is none
abbrev pub greatest : List ℕ → ℕ
greatest [] = 0
greatest (n ∷ ns) = max n (greatest ns)
