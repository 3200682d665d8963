-- Instances (FIRRTL specification 3.0, "Instances"), with the numbers of their modules.
use Rattle.std.specs.Prelude.{◌≡◌, ℕ, ◌+◌, true, is_some, nat_eq, List, [], ◌∷◌, Option, Some, None}
use Rattle.std.specs.Map.{lookup}
use Rattle.std.specs.List.{cons_option}
use Rattle.fir_tree.specs.LeafNames.{Texts, text_of}
use Rattle.fir_meaning.specs.Components.{Sort, A_memory, An_instance}
use Rattle.ground_net.specs.declared.circuit.GroundInstance.{GroundInstance}
use Rattle.lower_aggregates.specs.Parts.{Part}

-- What is said of an instance.
pub record InstanceRow : Type 0 where
  pub name : List ℕ
  pub first : ℕ
  pub memories : ℕ
  pub makes : Option ℕ

abbrev pub instance_row : GroundInstance → InstanceRow
instance_row g = record { name = g.name; first = g.first; memories = g.memories; makes = Some g.module }

-- modules by the numbers of their names
abbrev pub Numbers : Type 0
Numbers = List (ℕ × ℕ)

abbrev pub instance_where : Texts → Numbers → ℕ → Part → Sort → Option InstanceRow
instance_where texts numbers memories p (An_instance target) = Some (record { name = text_of texts p.name; first = p.first; memories = memories; makes = lookup (nat_eq target) numbers })
instance_where texts numbers memories p _ = None

-- how many memories a part of a module is
abbrev pub memories_by : Sort → ℕ
memories_by (A_memory memory) = 1
memories_by _ = 0

-- The instances among parts of a module, before which so many memories stand.
abbrev pub instances_from : Texts → Numbers → ℕ → List Part → List InstanceRow
instances_from texts numbers memories [] = []
instances_from texts numbers memories (p ∷ ps) = cons_option (instance_where texts numbers memories p p.sort) (instances_from texts numbers (memories + memories_by p.sort) ps)

-- the module of an instance is known
abbrev pub IsMade : Numbers → Sort → Type 0
IsMade numbers (An_instance target) = is_some (lookup (nat_eq target) numbers) ≡ true
IsMade numbers _ = Unit {0}
