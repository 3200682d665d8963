-- Well typed modules (FIRRTL specification 3.0, "Types", "References", "Primitive Operations" and "Conditionals"): an expression has a
-- kind and a width for each of its leaves where each of its parts has the parts that it takes. What the checks of types and widths
-- let pass is well typed.
use Rattle.std.specs.Prelude.{◌≡◌, ℕ, ◌≤◌, ◌&&◌, max, nat_le, nat_lt, Bool, true, false, List, [], ◌∷◌, map, Contains, slice_get, Option, Some, None, option_map, option_and_then, is_some, if◌then◌else◌}
use Rattle.std.specs.List.{list_all}
use Rattle.bit_words.specs.Numbers.{integer_of_number}
use Rattle.fir_types.specs.declared.fir_type.FirType.{FirType, fold-FirType}
use Rattle.fir_types.specs.declared.fir_type.Shape.TheOpen.{Shape-F}
use Rattle.fir_types.specs.declared.fir_type.Shape.TheViews.{out-Shape}
use Rattle.fir_types.specs.declared.leaf.TypeLeaf.{TypeLeaf}
use Rattle.fir_types.specs.declared.memory.Memory.{Memory}
use Rattle.fir_types.specs.Leaves.{leaves}
use Rattle.fir_types.specs.Memories.{element_of}
use Rattle.fir_tree.specs.declared.circuit.Module.{Module}
use Rattle.fir_tree.specs.declared.expr.Expr.{Expr, fold-Expr}
use Rattle.fir_tree.specs.declared.expr.Form.{Form}
use Rattle.fir_tree.specs.declared.expr.Suffix.{Suffix, fold-Suffix}
use Rattle.fir_tree.specs.declared.expr.Form.TheOpen.{Form-F, Suffix-F, Expr-F}
use Rattle.fir_tree.specs.declared.expr.Form.TheViews.{out-Form}
use Rattle.fir_tree.specs.declared.stmt.Stmt.{Stmt, fold-Stmt}
use Rattle.fir_tree.specs.declared.stmt.Stmt.TheOpen.{Stmt-F, Arm-F}
use Rattle.prim_ops.specs.Shapes.{Shape, shaped, same_kind, is_unsigned, all_of, shape_of_row}
use Rattle.fir_meaning.specs.Components.{TypedModule, Component, A_node, A_memory, component_named, declarations_of, kind_of_leaf, width_of_leaf, width_or_none, is_clock}
use Rattle.fir_meaning.specs.MemoryPorts.{MemoryPort, memory_ports, port_named}
use Rattle.fir_meaning.specs.Elements.{IsElement}
use Rattle.fir_meaning.specs.Drives.{same_way, is_turned}
use Rattle.fir_meaning.specs.States.{is_register}
use Rattle.fir_meaning.specs.Values.{field_of_shape, element_of_shape, vector_length, literal_width}

-- The types of a module's components; none where there is no component of the name.
abbrev pub Known : Type 0
Known = ℕ → Option FirType

abbrev pub known_in : TypedModule → Known
known_in m name = option_map (λ c. c.typ) (component_named m name)

-- the kind and the width of a leaf; a Clock counts as a UInt of no bits
abbrev pub leaf_shape : TypeLeaf → Shape
leaf_shape leaf = shaped (kind_of_leaf leaf) (width_of_leaf leaf)

-- The kinds and widths of an expression's values, leaf by leaf; none where it is not well typed.
abbrev pub InKnown : Type 0
InKnown = Known → Option (List Shape)

-- from the type before a step of a reference to the type behind it, where there is such a part
abbrev pub Onward : Type 0
Onward = Known → FirType → Option FirType

abbrev pub type_behind : Known → List Onward → Option FirType → Option FirType
type_behind known [] typ = typ
type_behind known (step ∷ steps) typ = type_behind known steps (option_and_then (step known) typ)

-- one UInt: an index, a condition or a reset
abbrev pub is_one_unsigned : Option (List Shape) → Bool
is_one_unsigned (Some (s ∷ [])) = is_unsigned s
is_one_unsigned _ = false

-- an operand of an operation has one value
abbrev pub lone_shape : Option (List Shape) → Option Shape
lone_shape (Some (s ∷ [])) = Some s
lone_shape _ = None

-- Leaf by leaf both are of one kind, and the wider one's width is taken.
abbrev pub wider : Shape → Shape → Option Shape
wider s t = if same_kind s.kind t.kind then Some (shaped s.kind (max s.width t.width)) else None

abbrev pub wider_each : List Shape → List Shape → Option (List Shape)
wider_each [] [] = Some []
wider_each (s ∷ ss) (t ∷ ts) = option_and_then (λ u. option_map (λ us. u ∷ us) (wider_each ss ts)) (wider s t)
wider_each _ _ = None

-- A choice takes a UInt and two operands with the same leaves.
abbrev pub chosen_shapes : List (Option (List Shape)) → Option (List Shape)
chosen_shapes (condition ∷ first ∷ second ∷ []) = if is_one_unsigned condition then option_and_then (λ ss. option_and_then (wider_each ss) second) first else None
chosen_shapes _ = None

-- a literal of at most 128 bits
abbrev pub literal_shape : Shape → Option (List Shape)
literal_shape s = if nat_le s.width 128 then Some (s ∷ []) else None

abbrev pub of_form : Form-F InKnown Onward InKnown → InKnown
of_form (Form-F.Ref name steps) known = option_map (λ typ. map leaf_shape (leaves typ)) (type_behind known steps (known name.id))
of_form (Form-F.Literal kind width number) known = literal_shape (shaped kind (literal_width kind (integer_of_number number) width))
of_form (Form-F.Prim prim operands params) known =
    option_map (λ s. s ∷ []) (option_and_then (shape_of_row prim params) (all_of (map (λ operand. lone_shape (operand known)) operands)))
of_form (Form-F.Mux operands) known = chosen_shapes (map (λ operand. operand known) operands)

-- The bundle has the field, the vector has the element, and an index is one UInt.
abbrev pub of_suffix : Suffix-F InKnown Onward InKnown → Onward
of_suffix (Suffix-F.Field name) known typ = field_of_shape name.id (out-Shape typ.shape)
of_suffix (Suffix-F.At bracket place n) known typ = if nat_lt n (vector_length typ) then element_of_shape (out-Shape typ.shape) else None
of_suffix (Suffix-F.Index bracket index) known typ = if is_one_unsigned (index known) then element_of_shape (out-Shape typ.shape) else None

abbrev pub of_expr : Expr-F InKnown Onward InKnown → InKnown
of_expr e = e.form

-- The kinds and widths of an expression's values where the components have these types.
abbrev pub typed : Expr → InKnown
typed = fold-Expr InKnown Onward InKnown of_form of_suffix of_expr

-- the type behind a step of a reference, where it is well typed
abbrev pub typed_step : Suffix → Onward
typed_step = fold-Suffix InKnown Onward InKnown of_form of_suffix of_expr

-- only a reference names anything
abbrev pub named_in_form : Known → Form-F Form Suffix Expr → Option FirType
named_in_form known (Form-F.Ref name suffixes) = type_behind known (map typed_step suffixes) (known name.id)
named_in_form known _ = None

-- The type of what a reference names; none of an expression that is no reference.
abbrev pub named_type : Known → Expr → Option FirType
named_type known e = named_in_form known (out-Form e.form)

-- The leaves stand at the same ways and are flipped alike, pair by pair.
abbrev pub same_leaves : List TypeLeaf → List TypeLeaf → Bool
same_leaves [] [] = true
same_leaves (a ∷ rest) (b ∷ others) = same_way a.path b.path && (is_turned a.flip b && same_leaves rest others)
same_leaves _ _ = false

-- What both sides of a connect name has the same leaves, where both are references.
abbrev pub both_match : Option FirType → Option FirType → Bool
both_match (Some left) (Some right) = same_leaves (leaves left) (leaves right)
both_match _ _ = true

-- the expression is well typed
abbrev pub is_typed : Known → Expr → Bool
is_typed known e = is_some (typed e known)

-- the expression is one UInt
abbrev pub is_condition : Known → Expr → Bool
is_condition known e = is_one_unsigned (typed e known)

module _ (known : Known) where
  -- The expressions of a statement are well typed, conditions and resets are UInts, and both sides of a connect match.
  abbrev pub of_stmt : Stmt-F Bool Bool → Bool
  of_stmt (Stmt-F.Wire name typ) = true
  of_stmt (Stmt-F.Reg name typ clock) = is_typed known clock
  of_stmt (Stmt-F.RegReset name typ clock reset init) = is_typed known clock && (is_condition known reset && is_typed known init)
  of_stmt (Stmt-F.Mem memory) = true
  of_stmt (Stmt-F.Inst name target) = true
  of_stmt (Stmt-F.Node name e) = is_typed known e
  of_stmt (Stmt-F.Connect left right) = is_typed known left && (is_typed known right && both_match (named_type known left) (named_type known right))
  of_stmt (Stmt-F.Invalidate target) = is_typed known target
  of_stmt (Stmt-F.When arms other) = list_all (λ arm. arm) arms && list_all (λ s. s) other
  of_stmt (Stmt-F.Skip place) = true

  abbrev pub of_arm : Arm-F Bool Bool → Bool
  of_arm arm = is_condition known arm.condition && list_all (λ s. s) arm.body

  abbrev pub is_typed_stmt : Stmt → Bool
  is_typed_stmt = fold-Stmt Bool Bool of_stmt of_arm

  -- All statements are well typed.
  abbrev pub are_typed : List Stmt → Bool
  are_typed body = list_all (λ b. b) (map is_typed_stmt body)

-- No ground type in a type has more than 128 bits, also none in an element of a vector of length 0.
abbrev pub narrow_layer : Shape-F Bool Bool Bool → Bool
narrow_layer (Shape-F.Unsigned width) = nat_le (width_or_none width) 128
narrow_layer (Shape-F.Signed width) = nat_le (width_or_none width) 128
narrow_layer Shape-F.Clock = true
narrow_layer Shape-F.Reset = true
narrow_layer Shape-F.AsyncReset = true
narrow_layer (Shape-F.Bundle fields) = list_all (λ f. f) fields
narrow_layer (Shape-F.Vector element n) = element

abbrev pub is_narrow : FirType → Bool
is_narrow = fold-FirType Bool Bool Bool narrow_layer (λ f. f.typ) (λ t. t.shape)

-- A module of a text and its components are well typed: there is one for each declaration, in text order; a node has the kinds and
-- widths of its expression; no leaf has more than 128 bits; the ways of a component's leaves differ pairwise.
pub record HasTypes (holder : Module) (m : TypedModule) : Type 0 where
  pub components : map (λ c. c.declaration) m.components ≡ declarations_of holder
  pub statements : are_typed (known_in m) holder.body ≡ true
  pub nodes : (c : Component) (e : Expr) → Contains m.components c → c.declaration.sort ≡ A_node e → typed e (known_in m) ≡ Some (map leaf_shape (leaves c.typ))
  pub passive : (c : Component) (e : Expr) (leaf : TypeLeaf) → Contains m.components c → c.declaration.sort ≡ A_node e → Contains (leaves c.typ) leaf → leaf.flip ≡ false
  pub narrow : (c : Component) (leaf : TypeLeaf) → Contains m.components c → Contains (leaves c.typ) leaf → width_of_leaf leaf ≤ 128
  -- so have the parts of a vector of length 0, which has no leaves
  pub parts : (c : Component) → Contains m.components c → is_narrow c.typ ≡ true
  pub ways : (c : Component) (j k : ℕ) (a b : TypeLeaf) → Contains m.components c → slice_get (leaves c.typ) j ≡ Some a → slice_get (leaves c.typ) k ≡ Some b → a.path ≡ b.path → j ≡ k
  -- the elements of a memory without ports, which has no leaves
  pub elements : (c : Component) (memory : Memory) (leaf : TypeLeaf) → Contains m.components c → c.declaration.sort ≡ A_memory memory → memory_ports memory ≡ [] → Contains (leaves (element_of memory)) leaf → width_of_leaf leaf ≤ 128
  -- registers and memories hold no Clock, registers have no flipped leaf, and the ports of a memory have different names
  pub held : (c : Component) (leaf : TypeLeaf) → Contains m.components c → is_register c.declaration.sort ≡ true → Contains (leaves c.typ) leaf → is_clock leaf ≡ false
  pub read_data : (c : Component) (memory : Memory) (leaf : TypeLeaf) → Contains m.components c → c.declaration.sort ≡ A_memory memory → Contains (leaves c.typ) leaf → leaf.flip ≡ false → is_clock leaf ≡ false
  pub port_names : (c : Component) (memory : Memory) (port : MemoryPort) → Contains m.components c → c.declaration.sort ≡ A_memory memory → Contains (memory_ports memory) port → port_named memory port.name ≡ Some port
  pub held_passive : (c : Component) (leaf : TypeLeaf) → Contains m.components c → is_register c.declaration.sort ≡ true → Contains (leaves c.typ) leaf → leaf.flip ≡ false
  -- so have the elements of a memory no flipped leaf
  pub stored_passive : (c : Component) (memory : Memory) (element : FirType) (leaf : TypeLeaf) → Contains m.components c → c.declaration.sort ≡ A_memory memory → IsElement c memory element → Contains (leaves element) leaf → leaf.flip ≡ false
