-- Where the values of leaves and of memories' elements are found, and their kinds and widths.
use Rattle.std.specs.Prelude.{ℕ, ◌+◌, ◌*◌, List, slice_get, Option, option_and_then, nat_lt, if◌then◌else◌, pos}
use Rattle.bit_words.specs.declared.value.Value.{Value}
use Rattle.prim_ops.specs.Values.{fitted}
use Rattle.ground_net.specs.Shapes.{Shape, shaped, shape_of_value}
use Rattle.ground_net.specs.Words.{value_at}
use Rattle.flat_code.specs.Meaning.{location_shape}
use Rattle.code_draft.specs.declared.sources.Kept.{Kept}
use Rattle.code_draft.specs.declared.sources.Source.{Source}
use Rattle.code_draft.specs.declared.sources.Source.TheVariants as source
use Rattle.code_draft.specs.declared.sources.Elements.{Elements}
use Rattle.code_draft.specs.declared.sources.Sources.{Sources}

-- the source of a leaf, and of a leaf of the elements of a memory
abbrev pub leaf_source : Sources → ℕ → Option Source
leaf_source S x = option_and_then (λ o. o) (slice_get S.leaves x)

abbrev pub element_source : Sources → ℕ → ℕ → Option Elements
element_source S m k = option_and_then (λ es. slice_get es k) (slice_get S.memories m)

-- Their kinds and widths.
abbrev pub kept_shape : Kept → Shape
kept_shape k = shaped k.kind k.width

abbrev pub source_shape : Source → Shape
source_shape (source.Word k) = kept_shape k
source_shape (source.Input k) = kept_shape k
source_shape (source.Frame s) = location_shape s
source_shape (source.Constant c) = shape_of_value c

abbrev pub elements_shape : Elements → Shape
elements_shape e = shaped e.kind e.width

-- the leaf of the element at an address, 0 past the depth
abbrev pub element_value : Elements → List ℕ → Value → Value
element_value e words address =
    if nat_lt address.bits e.region.depth then value_at (elements_shape e) words (e.region.base + address.bits * e.region.stride) else fitted e.kind e.width (pos 0)
