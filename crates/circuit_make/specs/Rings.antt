-- The generated circuit, line by line: a ring of registers, each of which takes the one before it and adds its own number, and a chain
-- of nodes that sums them all. Its stimulus sets nothing. The grammar is that of FIRRTL specification 3.0.
use Rattle.std.specs.Prelude.{ℕ, ◌-◌, ◌≤◌, ◌==◌, List, ◌++◌, if◌then◌else◌, codes, decimal}
use Rattle.std.specs.List.{flat_map, range_with_len}

-- a number of registers or of cycles that a circuit is made for
abbrev pub InRange : ℕ → Type 0
InRange number = (1 ≤ number) × (number ≤ 4096)

-- the register before one of a ring of n: before the first one stands the last one
abbrev pub before : ℕ → ℕ → ℕ
before n i = if i == 0 then n - 1 else i - 1

-- the lines up to the ports, and their end
abbrev pub head_lines : List ℕ
head_lines = codes "FIRRTL version 3.0.0\ncircuit Make :\n  module Make :\n    input clock : Clock\n    output out : UInt<32>\n"

-- the declaration of a register
abbrev pub register_line : ℕ → List ℕ
register_line i = codes "    reg r" ++ decimal i ++ codes " : UInt<32>, clock\n"

-- the connect of a register: the one before it and its own number, cut to 32 bits
abbrev pub connect_line : ℕ → ℕ → List ℕ
connect_line n i = codes "    connect r" ++ decimal i ++ codes ", tail(add(r" ++ decimal (before n i) ++ codes ", UInt<32>(" ++ decimal i ++ codes ")), 1)\n"

-- the node of the sum up to a register behind the first one
abbrev pub sum_line : ℕ → List ℕ
sum_line i = codes "    node s" ++ decimal i ++ codes " = tail(add(s" ++ decimal (i - 1) ++ codes ", r" ++ decimal i ++ codes "), 1)\n"

-- the output is the sum of all, and the stimulus has this many cycles
abbrev pub last_lines : ℕ → ℕ → List ℕ
last_lines n cycles = codes "    connect out, s" ++ decimal (n - 1) ++ codes "\n%stimulus\ncycles " ++ decimal cycles ++ codes "\n"

-- the whole text for n registers and a number of cycles
abbrev pub ring_text : ℕ → ℕ → List ℕ
ring_text n cycles =
    head_lines ++ flat_map register_line (range_with_len 0 n) ++ flat_map (connect_line n) (range_with_len 0 n) ++ codes "    node s0 = r0\n"
    ++ flat_map sum_line (range_with_len 1 (n - 1)) ++ last_lines n cycles
