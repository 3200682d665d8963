-- Parts of the definitions, as the code asks for them.
use Rattle.std.specs.Prelude.{ℕ, Bool, List, [], map, filter_map}
use Rattle.fir_types.specs.declared.fir_type.FirType.{FirType}
use Rattle.fir_types.specs.declared.fir_type.Shape.{Shape, fold-Shape}
use Rattle.fir_types.specs.declared.fir_type.Shape.TheVariants as shape
use Rattle.fir_types.specs.declared.fir_type.Field.{Field, fold-Field}
use Rattle.fir_types.specs.declared.memory.MemLine.{MemLine}
use Rattle.fir_types.specs.Bundles.{nowhere, mask_of, mask_of_field}
use Rattle.fir_types.specs.Memories.{element_in, first_or}
use Rattle.fir_types.specs.Spots.{size, field_size}
use Rattle.fir_tree.specs.declared.circuit.Module.{Module}
use Rattle.fir_tree.specs.declared.stmt.Stmt.{Stmt}
use Rattle.fir_tree.specs.declared.stmt.Arm.{Arm, fold-Arm}
use Rattle.reset_search.specs.Sources.{holds_async}
use Rattle.reset_search.specs.Resolved.{Becomes, of_shape, of_field, of_type, of_stmt, of_arm, becomes_stmt, resolved_ports, all_from}

abbrev pub shape_becomes : (ℕ → Bool) → Shape → Becomes Shape
shape_becomes reached = fold-Shape (Becomes Shape) (Becomes Field) (Becomes FirType) (of_shape reached) (of_field reached) (of_type reached)

abbrev pub field_becomes : (ℕ → Bool) → Field → Becomes Field
field_becomes reached = fold-Field (Becomes Shape) (Becomes Field) (Becomes FirType) (of_shape reached) (of_field reached) (of_type reached)

abbrev pub arm_becomes : (ℕ → Bool) → Arm → Becomes Arm
arm_becomes reached = fold-Arm (Becomes Stmt) (Becomes Arm) (of_stmt reached) (of_arm reached)

-- a module, with the places of its ports from one number on and those of its body from another
abbrev pub module_from : (ℕ → Bool) → ℕ → ℕ → Module → Module
module_from reached p n m = record { name = m.name; ports = resolved_ports reached p m.ports; body = all_from (map (becomes_stmt reached) m.body) n }

-- how many places a mask of a type has, and of a field of one
abbrev pub mask_size : FirType → ℕ
mask_size typ = size (mask_of typ)

abbrev pub field_mask_size : Field → ℕ
field_mask_size field = field_size (mask_of_field field)

-- whether an AsyncReset stands in the type of the elements that these lines give
abbrev pub memory_holds : List MemLine → Bool
memory_holds lines = holds_async (first_or (record { place = nowhere; shape = shape.Bundle [] }) (filter_map element_in lines))
