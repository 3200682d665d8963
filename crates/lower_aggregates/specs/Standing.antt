-- Where the memories and instances of a module stand among its components.
use Rattle.std.specs.Prelude.{◌≡◌, ℕ, ◌+◌, List, filter_map, zip, take, length, slice_get, sum_by, nat_eq, Some, option_map}
use Rattle.std.specs.Map.{lookup}
use Rattle.std.specs.List.{range_with_len}
use Rattle.fir_types.specs.declared.memory.Memory.{Memory}
use Rattle.fir_types.specs.Leaves.{leaves}
use Rattle.fir_tree.specs.LeafNames.{Texts, text_of}
use Rattle.fir_meaning.specs.Components.{Component, A_memory, target_in}
use Rattle.net_of_circuit.specs.Numbers.{as_memory}
use Rattle.lower_aggregates.specs.Parts.{component_part}
use Rattle.lower_aggregates.specs.Memories.{MemoryRow, memory_by}
use Rattle.lower_aggregates.specs.Instances.{InstanceRow, Numbers}

-- those of components, the first of which has this place
abbrev pub memory_parts_from : ℕ → List Component → List (ℕ × Component × Memory)
memory_parts_from a cs = filter_map (λ both. as_memory both.0 both.1 both.1.declaration.sort) (zip (range_with_len a (length cs)) cs)

abbrev pub instance_parts_from : ℕ → List Component → List (ℕ × Component × ℕ)
instance_parts_from a cs = filter_map (λ both. option_map (λ target. (both.0, both.1, target)) (target_in both.1.declaration.sort)) (zip (range_with_len a (length cs)) cs)

-- The memory stands among components before which so many leaves stand, and this is what is said of it.
pub record MemoryThere (texts : Texts) (a b : ℕ) (cs : List Component) (part : ℕ × Component × Memory) (row : MemoryRow) : Type 0 where
  pub j : ℕ
  pub place : part.0 ≡ a + j
  pub stands : slice_get cs j ≡ Some part.1
  pub sort : part.1.declaration.sort ≡ A_memory part.2
  pub row_is : row ≡ memory_by texts (component_part (b + sum_by (λ d. length (leaves d.typ)) (take j cs)) part.1) part.2

-- The same of an instance, before which so many memories stand.
pub record InstanceThere (texts : Texts) (numbers : Numbers) (n a b : ℕ) (cs : List Component) (part : ℕ × Component × ℕ) (row : InstanceRow) : Type 0 where
  pub j : ℕ
  pub place : part.0 ≡ a + j
  pub stands : slice_get cs j ≡ Some part.1
  pub name : row.name ≡ text_of texts part.1.declaration.name
  pub first : row.first ≡ b + sum_by (λ d. length (leaves d.typ)) (take j cs)
  pub memories : row.memories ≡ n + length (memory_parts_from a (take j cs))
  pub makes : row.makes ≡ lookup (nat_eq part.2) numbers
