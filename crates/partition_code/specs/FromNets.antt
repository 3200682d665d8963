-- Sources by which the values of a net's leaves and of its memories are found in the shared words and in the inputs.
use Rattle.std.specs.Prelude.{◌≡◌, ◌⊎◌, ℕ, List, slice_get, Some, pos}
use Rattle.bit_words.specs.declared.value.Value.{Value}
use Rattle.bit_words.specs.Values.{integer_of}
use Rattle.ground_net.specs.declared.net.Net.{Net}
use Rattle.ground_net.specs.declared.net.Leaf.{Leaf}
use Rattle.ground_net.specs.declared.net.NetMemory.{NetMemory}
use Rattle.ground_net.specs.declared.net.ElementLeaf.{ElementLeaf}
use Rattle.ground_net.specs.declared.net.Role.TheVariants as role
use Rattle.ground_net.specs.Shapes.{shape_of_value}
use Rattle.ground_net.specs.Cycles.{Inputs, fitted_to}
use Rattle.ground_net.specs.Nets.{leaf_shape, element_shape}
use Rattle.ground_net.specs.Words.{register_word, captured_word, element_word, element_words}
use Rattle.code_draft.specs.declared.sources.Source.{Source}
use Rattle.code_draft.specs.declared.sources.Source.TheVariants as source
use Rattle.code_draft.specs.declared.sources.Elements.{Elements}
use Rattle.code_draft.specs.declared.sources.Sources.{Sources}
use Rattle.code_emit.specs.Emits.{leaf_source, element_source, kept_shape, elements_shape}

-- A source of a leaf by its role: a register's word, or that of a captured read; an input; and 0 of a Clock. None is in a frame.
abbrev pub IsFrom : Net → Leaf → Source → Type 0
IsFrom net leaf (source.Word k) =
    (kept_shape k ≡ leaf_shape leaf) × (n : ℕ) × (((leaf.role ≡ role.Register n) × (k.number ≡ register_word net n)) ⊎ ((leaf.role ≡ role.Captured n) × (k.number ≡ captured_word net n)))
IsFrom net leaf (source.Input k) = (kept_shape k ≡ leaf_shape leaf) × (leaf.role ≡ role.Input k.number)
IsFrom net leaf (source.Constant c) = (leaf.role ≡ role.Clock) × (c ≡ fitted_to leaf (pos 0))
IsFrom net leaf (source.Frame s) = ⊥

-- the leaf of this number has this source
pub record HasSource (net : Net) (x : ℕ) (src : Source) : Type 0 where
  pub leaf : Leaf
  pub there : slice_get net.leaves x ≡ Some leaf
  pub is : IsFrom net leaf src

-- leaf k of the elements of a memory has this source
pub record HasElements (net : Net) (m k : ℕ) (e : Elements) : Type 0 where
  pub memory : NetMemory
  pub there : slice_get net.memories m ≡ Some memory
  pub leaf : ElementLeaf
  pub at : slice_get memory.elements k ≡ Some leaf
  pub shape : elements_shape e ≡ element_shape leaf
  pub depth : e.region.depth ≡ memory.depth
  pub base : e.region.base ≡ element_word net m memory 0 k
  pub stride : e.region.stride ≡ element_words memory

-- The sources are those of a net.
pub record AreOf (net : Net) (S : Sources) : Type 0 where
  pub leaves : (x : ℕ) (src : Source) → leaf_source S x ≡ Some src → HasSource net x src
  pub elements : (m k : ℕ) (e : Elements) → element_source S m k ≡ Some e → HasElements net m k e

-- The inputs that are given are these values, each of its leaf's kind and width.
abbrev pub MatchInputs : Net → List Value → Inputs → Type 0
MatchInputs net inputs given =
    (x n : ℕ) (leaf : Leaf) → slice_get net.leaves x ≡ Some leaf → leaf.role ≡ role.Input n
    → (v : Value) × (slice_get inputs n ≡ Some v) × (shape_of_value v ≡ leaf_shape leaf) × (integer_of v ≡ given n)
