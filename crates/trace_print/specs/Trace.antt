-- The lines of a trace: words with one space between them, and a line feed behind.
use Rattle.std.specs.Prelude.{ℕ, List, ◌++◌, flat_map, codes, decimal}
use Rattle.bit_words.specs.declared.value.Value.{Value}
use Rattle.bit_words.specs.Values.{integer_of}
use Rattle.bit_words.specs.Decimals.{decimal_text}

-- the first line: `cycle` and the names of the watched leaves
abbrev pub header_of : List (List ℕ) → List ℕ
header_of names = codes "cycle" ++ flat_map (λ name. codes " " ++ name) names ++ codes "\n"

-- the line of a cycle: its number and the values, each in decimal
abbrev pub trace_line_of : ℕ → List Value → List ℕ
trace_line_of cycle row = decimal cycle ++ flat_map (λ value. codes " " ++ decimal_text (integer_of value)) row ++ codes "\n"
