-- The decimal text of an integer.
use Rattle.std.specs.Prelude.{ℕ, suc, List, ◌∷◌, ℤ, pos, negsuc, decimal}

-- the decimal digits of its magnitude, a minus first where it is negative
abbrev pub decimal_text : ℤ → List ℕ
decimal_text (pos n) = decimal n
decimal_text (negsuc n) = 45 ∷ decimal (suc n)
