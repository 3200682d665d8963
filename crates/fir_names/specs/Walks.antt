-- What the walk through a module keeps.
use Rattle.std.specs.Prelude.{◌≡◌, ℕ, List, [], ◌∷◌, ◌++◌, map, length, if◌then◌else◌, nat_eq, Option, Some, None, is_some}
use Rattle.std.specs.List.{flat_map}
use Rattle.std.specs.Map.{lookup}
use Rattle.place_text.specs.declared.place.Place.{Place}
use Rattle.fir_types.specs.declared.name.Name.{Name}
use Rattle.fir_names.specs.declared.walk.Walk.{Walk}
use Rattle.fir_names.specs.declared.fault.NameFault.{NameFault}
use Rattle.fir_names.specs.declared.fault.NameFault.TheVariants.{NameUnknown}
use Rattle.fir_tree.specs.declared.circuit.Module.{Module}
use Rattle.fir_names.specs.Extents.{Use, Seen, declared_in, instances_in, uses_in}
use Rattle.fir_names.specs.Parts.{Part}

-- the number of the first declaration of a text
abbrev pub first_of : List Seen → ℕ → Option ℕ
first_of seen text = lookup (nat_eq text) seen

-- of declarations of one text only the first is kept
abbrev pub kept_with : List Seen → Seen → List Seen
kept_with kept s = if is_some (first_of kept s.0) then kept else kept ++ s ∷ []

abbrev pub kept_from : List Seen → List Seen → List Seen
kept_from kept [] = kept
kept_from kept (s ∷ ss) = kept_from (kept_with kept s) ss

unfoldable pub kept_of : List Seen → List Seen
kept_of seen = kept_from [] seen

-- the number that was found, and else 0
abbrev pub number_or : Option ℕ → ℕ
number_or (Some number) = number
number_or None = 0

-- the fault, where nothing was found
abbrev pub fault_unless : Option ℕ → NameFault → List NameFault
fault_unless (Some number) fault = []
fault_unless None fault = fault ∷ []

abbrev pub number_in : List Seen → Name → ℕ
number_in seen name = number_or (first_of seen name.id)

abbrev pub fault_in : (Place → NameFault) → List Seen → Name → List NameFault
fault_in says seen name = fault_unless (first_of seen name.id) (says name.place)

abbrev pub number_of : Use → ℕ
number_of use' = number_in use'.seen use'.name

abbrev pub fault_of : Use → List NameFault
fault_of use' = fault_in NameUnknown use'.seen use'.name

-- a part of a module was walked
pub record Walks (part : Part) (old new : Walk) : Type 0 where
  pub declared : new.declared.items ≡ old.declared.items ++ part.declares
  pub instances : new.instances.items ≡ old.instances.items ++ part.instances
  pub visible : (seen : List Seen) → old.visible.entries ≡ kept_of seen → new.visible.entries ≡ kept_of (seen ++ part.shows (length old.declared.items))
  pub uses : (seen : List Seen) → old.visible.entries ≡ kept_of seen → new.uses.items ≡ old.uses.items ++ map number_of (part.uses seen (length old.declared.items))
  pub faults : (seen : List Seen) → old.visible.entries ≡ kept_of seen → new.faults.items ≡ old.faults.items ++ flat_map fault_of (part.uses seen (length old.declared.items))

-- a whole module was walked
pub record HasWalked (holder : Module) (walk : Walk) : Type 0 where
  pub declared : walk.declared.items ≡ declared_in holder
  pub instances : walk.instances.items ≡ instances_in holder
  pub uses : walk.uses.items ≡ map number_of (uses_in holder)
  pub faults : walk.faults.items ≡ flat_map fault_of (uses_in holder)
