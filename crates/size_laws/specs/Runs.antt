-- What is counted of a run: its leaves in flat order, the texts of their names and of those of memory elements, the words of its state,
-- and the names in its instance paths.
use Rattle.std.specs.Prelude.{◌≡◌, ℕ, ◌+◌, ◌*◌, ◌≤◌, ◌==◌, Bool, List, ◌∷◌, map, flat_map, length, count_by, sum_by, Some, if◌then◌else◌}
use Rattle.std.specs.List.{range_with_len}
use Rattle.fir_types.specs.declared.leaf.PathStep.{PathStep}
use Rattle.fir_types.specs.declared.leaf.PathStep.TheVariants as step
use Rattle.fir_types.specs.declared.memory.Memory.{Memory}
use Rattle.fir_types.specs.Leaves.{leaves}
use Rattle.fir_types.specs.Memories.{element_of, depth_of, read_latency_of}
use Rattle.fir_tree.specs.LeafNames.{Texts}
use Rattle.fir_meaning.specs.Components.{Design, TypedModule, module_at}
use Rattle.fir_meaning.specs.MemoryPorts.{memory_ports}
use Rattle.fir_meaning.specs.States.{is_register}
use Rattle.net_of_circuit.specs.FlatOrder.{Placed, Standing, all_leaves, all_memories, flat_of}
use Rattle.net_of_circuit.specs.NetOf.{flat_text, may_read}
use Rattle.size_check.specs.declared.measure.Measure.{Measure}

-- The ways to the leaves of a memory's elements: the number of the element, and the leaf of an element.
abbrev pub element_ways : Memory → List (List PathStep)
element_ways memory = flat_map (λ k. map (λ leaf. step.Element k ∷ leaf.path) (leaves (element_of memory))) (range_with_len 0 (depth_of memory))

-- Names

abbrev pub leaf_bytes : Texts → Standing → ℕ
leaf_bytes texts y = length (flat_text texts (flat_of y))

abbrev pub element_bytes : Texts → Placed → List PathStep → ℕ
element_bytes texts p way = length (flat_text texts (record { path = p.path; component = p.c.declaration.name; way = way }))

-- The bytes of all flat names: those of the leaves, and those of the leaves of the elements of memories.
abbrev pub bytes_of : Texts → List Placed → ℕ
bytes_of texts placed = sum_by (leaf_bytes texts) (all_leaves placed) + sum_by (λ both. sum_by (element_bytes texts both.0) (element_ways both.1)) (all_memories placed)

-- Words

-- the leaf of a register
abbrev pub is_held : Standing → Bool
is_held y = is_register y.0.c.declaration.sort

-- the ports that read
abbrev pub readers : Memory → ℕ
readers memory = count_by (λ port. may_read port.mode) (memory_ports memory)

-- the leaves that hold what was read a cycle before
abbrev pub captured : Memory → ℕ
captured memory = if read_latency_of memory == 1 then readers memory * length (leaves (element_of memory)) else 0

-- The leaves of the state: those of registers, those of the elements of memories, and those of reads that come a cycle later.
abbrev pub kept : List Placed → ℕ
kept placed = count_by is_held (all_leaves placed) + sum_by (λ both. length (element_ways both.1) + captured both.1) (all_memories placed)

-- Instance paths

-- No module stands at a path of more names, and one stands at a path of so many.
pub record IsLongest (design : Design) (depth : ℕ) : Type 0 where
  pub all : (path : List ℕ) (m : TypedModule) → module_at design path ≡ Some m → length path ≤ depth
  pub one : (path : List ℕ) × (m : TypedModule) × (module_at design path ≡ Some m) × (length path ≡ depth)

-- The numbers of a measure are those of the run with these components. Each leaf of the state has two words, whatever its width.
pub record IsOfRun (texts : Texts) (placed : List Placed) (measure : Measure) : Type 0 where
  pub leaves : measure.leaves ≡ length (all_leaves placed)
  pub names : measure.names ≡ bytes_of texts placed
  pub state_words : measure.state_words ≡ 2 * kept placed
