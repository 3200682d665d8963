-- What a cycle shows, from lists of values.
use Rattle.std.specs.Prelude.{◌≡◌, ℕ, ◌+◌, ◌*◌, ◌<◌, ◌≤◌, nat_lt, Bool, List, [], map, get_or, length, slice_get, unsigned_abs, pos, Option, Some, None, IsSome, All, if◌then◌else◌}
use Rattle.bit_words.specs.declared.value.Value.{Value}
use Rattle.bit_words.specs.Values.{integer_of}
use Rattle.prim_ops.specs.Values.{fitted, lone}
use Rattle.ground_net.specs.declared.ground.Ground.{Ground}
use Rattle.ground_net.specs.declared.net.Net.{Net}
use Rattle.ground_net.specs.declared.net.NetMemory.{NetMemory}
use Rattle.ground_net.specs.declared.net.ElementLeaf.{ElementLeaf}
use Rattle.ground_net.specs.Grounds.{Instant, value, place}
use Rattle.prim_ops.specs.declared.operation.PrimOp.{PrimOp}
use Rattle.prim_ops.specs.Operations.{arity_of}
use Rattle.prim_ops.specs.Kinds.{row_kind}
use Rattle.prim_ops.specs.Widths.{width_number, ParamsFit}
use Rattle.prim_ops.specs.Results.{kinds_of, widths_of}
use Rattle.ground_net.specs.Shapes.{Table, HasShapes, shape}
use Rattle.ground_net.specs.Nets.{table_of}

-- the value of a number, and 0 of no bits where there is none
abbrev pub value_at : List Value → ℕ → Value
value_at values x = get_or values x (lone [])

-- A leaf of an element at a place of what a memory holds, and 0 where the memory has no such element or no such leaf.
abbrev pub held_leaf : Option ElementLeaf → Bool → List Value → ℕ → Value
held_leaf (Some leaf) within held at = if within then value_at held at else fitted leaf.kind leaf.width (pos 0)
held_leaf None within held at = lone []

-- Leaf k of the element at an address of a memory that holds these values.
abbrev pub held_by : Option NetMemory → List Value → ℕ → ℕ → Value
held_by (Some memory) held k address = held_leaf (slice_get memory.elements k) (nat_lt address memory.depth) held (address * length memory.elements + k)
held_by None held k address = lone []

-- What a cycle shows where the leaves have these values and the memories these contents.
abbrev pub seen : Net → List Value → List (List Value) → Instant
seen net values contents = record { leaf = value_at values; load = λ m k address. held_by (slice_get net.memories m) (get_or contents m []) k (unsigned_abs (integer_of address)) }

-- All values are of the kinds and widths of their leaves.
abbrev pub AreSeen : Net → List Value → List (List Value) → Type 0
AreSeen net values contents = HasShapes (table_of net) (seen net values contents)

-- All expressions are in order.
abbrev pub AreShaped : Table → List Ground → Type 0
AreShaped table items = All (λ g. IsSome (shape g table)) items

-- the values of expressions
abbrev pub values_of : List Ground → Instant → List Value
values_of items instant = map (λ g. value g instant) items

-- the place that values pick as indices
abbrev pub placed : List Value → List ℕ → Option ℕ
placed values lengths = place (map integer_of values) lengths

-- Values that an operation of the table takes.
pub record Applies (prim : PrimOp) (params : List ℕ) (values : List Value) : Type 0 where
  pub some : 0 < length values
  pub few : length values ≤ 2
  pub operands : length values ≡ (arity_of prim).0
  pub parameters : length params ≡ (arity_of prim).1
  pub row : IsSome (row_kind prim (kinds_of values))
  pub fit : ParamsFit prim (widths_of values) params
  pub narrow : width_number prim (kinds_of values) (widths_of values) params ≤ 128
