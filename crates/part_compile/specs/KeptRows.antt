-- What the bodies keep.
use Rattle.std.specs.Prelude.{◌≡◌, ℕ, ◌+◌, List, [], map, flat_map, take, length, slice_get, Option, Some, None, IsSome, if◌then◌else◌}
use Rattle.ground_net.specs.declared.net.Net.{Net}
use Rattle.ground_net.specs.declared.net.Leaf.{Leaf}
use Rattle.ground_net.specs.declared.net.NetMemory.{NetMemory}
use Rattle.ground_net.specs.declared.net.NetPort.{NetPort}
use Rattle.ground_net.specs.declared.net.NetRead.{NetRead}
use Rattle.ground_net.specs.declared.net.ElementLeaf.{ElementLeaf}
use Rattle.ground_net.specs.declared.net.Role.TheVariants as role
use Rattle.ground_net.specs.Shapes.{Shape}
use Rattle.ground_net.specs.Nets.{shape_or_none, leaf_shape, element_shape, element_shapes}
use Rattle.ground_net.specs.Words.{count_words, element_words}
use Rattle.code_draft.specs.declared.sources.Kept.{Kept}
use Rattle.code_draft.specs.declared.sources.Source.{Source}
use Rattle.code_draft.specs.declared.sources.Elements.{Elements}
use Rattle.code_emit.specs.Emits.{kept_shape, elements_shape}
use Rattle.partition_code.specs.FromNets.{IsFrom}
use Rattle.part_compile.specs.declared.captured.CapturedRead.{CapturedRead}

-- the kinds and widths of leaves
abbrev pub shapes_at : Net → List ℕ → List Shape
shapes_at net leaves = map (λ x. shape_or_none (slice_get net.leaves x)) leaves

-- the captured reads of a port of a memory, and of its ports
abbrev pub told_by : ℕ → Option NetRead → List CapturedRead
told_by m (Some read) = if read.captured then map (λ x. record { memory = m; leaf = x }) read.leaves else []
told_by m None = []

abbrev pub told_by_ports : ℕ → List NetPort → List CapturedRead
told_by_ports m ports = flat_map (λ port. told_by m port.read) ports

-- a leaf of the net
pub record IsLeafOf (net : Net) (leaf : Leaf) : Type 0 where
  pub number : ℕ
  pub there : slice_get net.leaves number ≡ Some leaf

-- the leaf's kind and width, under this number
abbrev pub kept_as : Leaf → ℕ → Kept → Type 0
kept_as leaf number k = (kept_shape k ≡ leaf_shape leaf) × (k.number ≡ number)

-- a source of the leaf, where it is no assignment
pub record IsSourceOf (net : Net) (leaf : Leaf) (o : Option Source) : Type 0 where
  pub from : (src : Source) → o ≡ Some src → IsFrom net leaf src
  pub there : (leaf.role ≡ role.Assigned → ⊥) → IsSome o

-- sources of so many leaves
pub record AreSourcesOf (net : Net) (count : ℕ) (sources : List (Option Source)) : Type 0 where
  pub counted : length sources ≡ count
  pub each : (x : ℕ) (leaf : Leaf) (o : Option Source) → slice_get net.leaves x ≡ Some leaf → slice_get sources x ≡ Some o → IsSourceOf net leaf o

-- the source of leaf k of the elements of a memory that says its word
pub record IsElementOf (memory : NetMemory) (k : ℕ) (leaf : ElementLeaf) (e : Elements) : Type 0 where
  pub shape : elements_shape e ≡ element_shape leaf
  pub depth : e.region.depth ≡ memory.depth
  pub base : e.region.base ≡ memory.word + count_words (take k (element_shapes memory))
  pub stride : e.region.stride ≡ element_words memory

-- sources of so many leaves of the elements
pub record AreElementsOf (memory : NetMemory) (count : ℕ) (sources : List Elements) : Type 0 where
  pub counted : length sources ≡ count
  pub each : (k : ℕ) (leaf : ElementLeaf) (e : Elements) → slice_get memory.elements k ≡ Some leaf → slice_get sources k ≡ Some e → IsElementOf memory k leaf e

-- sources of so many memories
pub record AreMemoriesOf (memories : List NetMemory) (count : ℕ) (sources : List (List Elements)) : Type 0 where
  pub counted : length sources ≡ count
  pub each : (m : ℕ) (memory : NetMemory) (es : List Elements) → slice_get memories m ≡ Some memory → slice_get sources m ≡ Some es → AreElementsOf memory (length memory.elements) es
