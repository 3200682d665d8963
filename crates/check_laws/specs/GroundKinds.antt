-- The kinds of ground types (FIRRTL specification 3.0, "Ground Types" and "Type Equivalence").
use Rattle.std.specs.Prelude.{Option, Some, None}
use Rattle.fir_types.specs.declared.fir_type.Shape.{Shape}
use Rattle.fir_types.specs.declared.fir_type.Shape.TheVariants as shape
use Rattle.fir_types.specs.declared.leaf.TypeLeaf.{TypeLeaf}

pub data GroundKind : Type 0 where
  An_unsigned : GroundKind
  A_signed : GroundKind
  A_clock : GroundKind
  An_async : GroundKind

-- `Reset` is `UInt<1>`. Bundles and vectors are no ground types.
abbrev pub kind_of_shape : Shape → Option GroundKind
kind_of_shape (shape.Unsigned width) = Some An_unsigned
kind_of_shape shape.Reset = Some An_unsigned
kind_of_shape (shape.Signed width) = Some A_signed
kind_of_shape shape.Clock = Some A_clock
kind_of_shape shape.AsyncReset = Some An_async
kind_of_shape _ = None

-- the kind of a leaf
abbrev pub ground_kind : TypeLeaf → Option GroundKind
ground_kind leaf = kind_of_shape leaf.typ.shape
