-- The modules of a circuit by the numbers of their names, and the types of their instances.
use Rattle.std.specs.Prelude.{◌≡◌, ℕ, List, [], ◌∷◌, ◌++◌, nat_eq, ◌==◌, find, slice_get, is_some, Option, Some, option_map, if◌then◌else◌, IfSome}
use Rattle.std.specs.Map.{lookup}
use Rattle.fir_tree.specs.declared.circuit.Module.{Module}
use Rattle.fir_types.specs.declared.fir_type.FirType.{FirType}
use Rattle.fir_types.specs.Bundles.{instance_of}
use Rattle.fir_tree.specs.LeafNames.{Texts}
use Rattle.type_index.specs.Numbers.{Table, HasNumber}
use Rattle.type_index.specs.Knowing.{HasWays}
use Rattle.type_index.specs.declared.known_type.KnownType.{KnownType}
use Rattle.module_table.specs.declared.modules.Instance.{Instance}

-- the first module of a name
abbrev pub named : List Module → ℕ → Option Module
named modules name = find (λ m. m.name.id == name) modules

-- the type of the instances of a module
abbrev pub bundle_of : Module → FirType
bundle_of m = instance_of m.ports

abbrev pub typ_of : KnownType → FirType
typ_of known = known.typ

abbrev pub instance_typ : Instance → FirType
instance_typ instance = instance.known.typ

-- The type has the bytes of the ways to its leaves, where the names have these texts, and the number, where there is one, is that of
-- its class.
pub record IsInstance (texts : Texts) (table : Table) (instance : Instance) : Type 0 where
  pub ways : HasWays texts instance.known.typ instance.known.index
  pub class : IfSome instance.class (HasNumber table instance.known.typ)

-- the entries with one more, unless there is one of its name
abbrev pub with_new : {X : Type 0} → List (ℕ × X) → ℕ → X → List (ℕ × X)
with_new entries name value = if is_some (lookup (nat_eq name) entries) then entries else entries ++ (name, value) ∷ []

-- a name has a number where one of these modules has it, and that is the number of the first in the list of all
abbrev pub IsIndexOf : List Module → List (ℕ × ℕ) → List Module → Type 0
IsIndexOf all numbers modules = (name : ℕ) → option_map (slice_get all) (lookup (nat_eq name) numbers) ≡ option_map Some (named modules name)

abbrev pub IsIndex : List Module → List (ℕ × ℕ) → Type 0
IsIndex modules numbers = IsIndexOf modules numbers modules
