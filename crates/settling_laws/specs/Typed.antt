-- Well typed declarations (FIRRTL specification 3.0, "Registers", "Nodes" and "Connects").
use Rattle.std.specs.Prelude.{ℕ, ◌==◌, ◌&&◌, Bool, true}
use Rattle.fir_meaning.specs.Components.{Sort, A_reset_register, A_memory, A_node, Declaration}
use Rattle.fir_meaning.specs.WellTyped.{Known, is_condition, is_typed, are_typed}

-- The reset of a register is a UInt, and its value after a reset and the expression of a node are well typed.
abbrev pub is_typed_sort : Known → Sort → Bool
is_typed_sort known (A_reset_register clock reset init) = is_condition known reset && is_typed known init
is_typed_sort known (A_node e) = is_typed known e
is_typed_sort known _ = true

-- a memory has the name of its declaration
abbrev pub is_named : ℕ → Sort → Bool
is_named name (A_memory memory) = memory.name.id == name
is_named name _ = true

-- So are the statements of its block, and a memory has its name.
abbrev pub is_typed_declaration : Known → Declaration → Bool
is_typed_declaration known d = are_typed known d.block && (is_typed_sort known d.sort && is_named d.name d.sort)
