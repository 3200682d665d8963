-- What a `printf` prints with the values of its arguments, and the lines at the end of a log.
use Rattle.std.specs.Prelude.{ℕ, zero, suc, ◌+◌, ◌/◌, ◌%◌, nat_lt, List, [], ◌∷◌, ◌++◌, codes, decimal, if◌then◌else◌}
use Rattle.bit_words.specs.declared.value.Value.{Value}
use Rattle.bit_words.specs.Values.{integer_of}
use Rattle.bit_words.specs.Decimals.{decimal_text}
use Rattle.fir_tree.specs.declared.print.Piece.{Piece}
use Rattle.fir_tree.specs.declared.print.Piece.TheVariants.{Bytes, Show}
use Rattle.fir_tree.specs.declared.print.Radix.{Radix}
use Rattle.fir_tree.specs.declared.print.Radix.TheVariants.{Bin, Dec, Hex, Char}

-- `0` to `9` and `a` to `f`
abbrev pub digit : ℕ → ℕ
digit n = if nat_lt n 10 then 48 + n else 87 + n

-- The digits of a number in a base, the highest first and no 0 before others: at most so many of the lowest.
unfoldable pub least_digits : ℕ → ℕ → ℕ → List ℕ
least_digits base zero n = []
least_digits base (suc most) n = if nat_lt n base then digit n ∷ [] else least_digits base most (n / base) ++ digit (n % base) ∷ []

-- A value as it is shown: its bits in binary or hexadecimal digits, of which 128 bits have at most 128; its integer in decimal
-- digits, a minus first where it is negative; its lowest eight bits as one byte.
abbrev pub shown : Radix → Value → List ℕ
shown Bin v = least_digits 2 128 v.bits
shown Dec v = decimal_text (integer_of v)
shown Hex v = least_digits 16 128 v.bits
shown Char v = v.bits % 256 ∷ []

-- What a format prints of these values, the first of which is that of the first one shown.
abbrev pub printed : List Piece → List Value → List ℕ
printed [] values = []
printed (Bytes text ∷ pieces) values = text ++ printed pieces values
printed (Show radix ∷ pieces) [] = printed pieces []
printed (Show radix ∷ pieces) (v ∷ values) = shown radix v ++ printed pieces values

-- The last line of a log: a `stop` with this code ended it in this cycle, or it ended behind so many cycles.
abbrev pub stopped_line : ℕ → ℕ → List ℕ
stopped_line cycle code = codes "stopped " ++ decimal cycle ++ codes " " ++ decimal code ++ codes "\n"

abbrev pub ended_line : ℕ → List ℕ
ended_line cycles = codes "ended " ++ decimal cycles ++ codes "\n"
