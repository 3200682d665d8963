-- The text of a dump: its lines, each ended by a line feed.
use Rattle.std.specs.Prelude.{ℕ, zero, suc, ◌+◌, ◌/◌, ◌%◌, nat_lt, List, [], ◌∷◌, ◌++◌, map, flat_map, slice_get, unwrap_or, codes, decimal, if◌then◌else◌}
use Rattle.std.specs.List.{enumerate_from}
use Rattle.std.specs.Int.Digits.{digits_of}
use Rattle.bit_words.specs.declared.value.Value.{Value}
use Rattle.ground_net.specs.declared.net.PortLeaf.{PortLeaf}
use Rattle.vcd_write.specs.Changes.{Entry, Time, Change, dump}

-- The identifier of a variable: its number in base 94 with the digits from `!` to `~`, the first one highest.
abbrev pub id_of : ℕ → List ℕ
id_of zero = 33 ∷ []
id_of (suc i) = map (λ d. 33 + d) (digits_of 94 (suc i))

-- so many binary digits of bits
abbrev pub binary : ℕ → ℕ → List ℕ
binary zero n = []
binary (suc w) n = binary w (n / 2) ++ (48 + n % 2) ∷ []

-- a change of a variable of some width: its bit and identifier, or all its bits and, behind a space, its identifier
abbrev pub change_line : ℕ → ℕ → ℕ → List ℕ
change_line width i n = if nat_lt 1 width then 98 ∷ (binary width n ++ 32 ∷ id_of i) else (48 + n) ∷ id_of i

-- an entry, where the variables have these widths
abbrev pub entry_line : List ℕ → Entry → List ℕ
entry_line widths (Time t) = 35 ∷ decimal t
entry_line widths (Change i n) = change_line (unwrap_or (slice_get widths i) 0) i n

-- a variable has at least one wire
abbrev pub wires : ℕ → ℕ
wires width = if nat_lt 1 width then width else 1

abbrev pub var_line : ℕ × PortLeaf → List ℕ
var_line v = codes "$var wire " ++ (decimal (wires v.1.width) ++ (codes " " ++ (id_of v.0 ++ (codes " " ++ (v.1.name ++ codes " $end")))))

abbrev pub header_lines : List ℕ → List PortLeaf → List (List ℕ)
header_lines top vars =
    codes "$timescale 1 ns $end" ∷ (codes "$scope module " ++ (top ++ codes " $end")) ∷ (map var_line (enumerate_from 0 vars) ++ codes "$upscope $end" ∷ codes "$enddefinitions $end" ∷ [])

abbrev pub ended : List ℕ → List ℕ
ended line = line ++ 10 ∷ []

abbrev pub widths_of : List PortLeaf → List ℕ
widths_of vars = map (λ leaf. leaf.width) vars

-- the bits of a row
abbrev pub bits_of_row : List Value → List ℕ
bits_of_row row = map (λ v. v.bits) row

-- The dump of rows of these variables, in a scope of this name.
abbrev pub vcd_text : List ℕ → List PortLeaf → List (List Value) → List ℕ
vcd_text top vars rows = flat_map ended (header_lines top vars ++ map (entry_line (widths_of vars)) (dump (map bits_of_row rows)))
