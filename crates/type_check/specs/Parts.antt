-- The components that are known, and the faults of a node.
use Rattle.std.specs.Prelude.{ℕ, Bool, true, false, List, [], ◌∷◌, ◌++◌, Option, Some, None, is_some, if◌then◌else◌, nat_eq}
use Rattle.std.specs.Map.{lookup}
use Rattle.fir_types.specs.declared.fir_type.FirType.{FirType}
use Rattle.fir_tree.specs.declared.part.Part.{Part}
use Rattle.type_check.specs.declared.fault.TypeFault.{TypeFault}

-- The components that are declared so far in a module, by the numbers of their names. All declarations of a module have
-- different names, so a name means the first that has it.
abbrev pub Known : Type 0
Known = List (ℕ × Part)

-- the component of a name
abbrev pub component : Known → ℕ → Option Part
component known name = lookup (nat_eq name) known

-- one more component, where it has a type
abbrev pub known_with : Known → ℕ → Option Part → Known
known_with known name None = known
known_with known name (Some part) = if is_some (component known name) then known else known ++ (name, part) ∷ []

abbrev pub one_fault : TypeFault → List TypeFault
one_fault fault = fault ∷ []

-- the fault, where the condition isn't met
abbrev pub unless : Bool → TypeFault → List TypeFault
unless true fault = []
unless false fault = one_fault fault

-- the fault, where the condition is met
abbrev pub when : Bool → TypeFault → List TypeFault
when true fault = one_fault fault
when false fault = []

-- the faults that something with a type has; what has none isn't judged
abbrev pub where_typed : (Part → List TypeFault) → Option Part → List TypeFault
where_typed faults (Some part) = faults part
where_typed faults None = []

-- the type of a node without faults
abbrev pub typed_without : List TypeFault → FirType → Option FirType
typed_without [] typ = Some typ
typed_without (fault ∷ faults) typ = None
