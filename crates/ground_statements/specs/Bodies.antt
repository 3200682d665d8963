-- What it is to be the ground statements of a body, leaf by leaf (FIRRTL specification 3.0, "Statements", "Connects", "Nodes",
-- "Conditionals" and "Last Connect Semantics").
use Rattle.std.specs.Prelude.{◌≡◌, ℕ, ◌+◌, ◌&&◌, not, nat_eq, nat_lt, Bool, true, false, List, [], ◌∷◌, map, length, slice_get, get_or, ℤ, Option, Some, option_map, if◌then◌else◌}
use Rattle.std.specs.List.{list_any}
use Rattle.std.specs.Map.{lookup}
use Rattle.bit_words.specs.declared.value.Value.{Value}
use Rattle.bit_words.specs.Values.{integer_of}
use Rattle.fir_types.specs.declared.leaf.TypeLeaf.{TypeLeaf}
use Rattle.fir_types.specs.Leaves.{leaves}
use Rattle.fir_tree.specs.declared.circuit.Module.{Module}
use Rattle.fir_tree.specs.declared.expr.Expr.{Expr}
use Rattle.fir_tree.specs.declared.stmt.Stmt.{Stmt}
use Rattle.fir_meaning.specs.Components.{TypedModule, Component, Leaf, A_node, is_clock, type_in}
use Rattle.fir_meaning.specs.Values as tree
use Rattle.fir_meaning.specs.Drives as tree_drives
use Rattle.fir_meaning.specs.Mentions as tree_reads
use Rattle.fir_meaning.specs.Loops as tree_loops
use Rattle.fir_meaning.specs.States.{leaf_of}
use Rattle.fir_meaning.specs.WellTyped.{HasTypes, leaf_shape}
use Rattle.circuit_laws.specs.Open.{left_by}
use Rattle.circuit_laws.specs.OpenReads.{open_driving, live_by}
use Rattle.ground_net.specs.declared.circuit.GroundStmt.{GroundStmt}
use Rattle.ground_net.specs.declared.circuit.GroundLeaf.{GroundLeaf}
use Rattle.ground_net.specs.Grounds.{Instant, joined}
use Rattle.ground_net.specs.Statements.{in_turn, effect, is_certain, live, drives}
use Rattle.ground_net.specs.Shapes.{Table, HasShapes}
use Rattle.ground_net.specs.StatementShapes.{is_shaped}
use Rattle.net_of_circuit.specs.Numbers.{ModuleLeaf, module_leaves, number_of, scene_at, is_set, table_of, SameReads, leaves_before}
use Rattle.ground_exprs.specs.Numbers.{Numbering}
use Rattle.ground_exprs.specs.Sources.{Entries}
use Rattle.ground_exprs.specs.declared.component.Component.{Component as Known}
use Rattle.ground_statements.specs.Connects.{SameLives}
use Rattle.ground_statements.specs.Declares.{body_labels, Declares}

-- These are the components of the module by their names, each with its type and the number of leaves before it, and the flags of the
-- leaves that statements may set.
pub record IsViewOf (m : TypedModule) (entries : Entries) (settable : List Bool) : Type 0 where
  pub components : (k : ℕ) (c : Component) → slice_get m.components k ≡ Some c
      → (e : Known) × (lookup (nat_eq c.declaration.name) entries ≡ Some e) × (e.typ ≡ c.typ) × (e.first ≡ leaves_before m k)
  pub only : (name : ℕ) (e : Known) → lookup (nat_eq name) entries ≡ Some e → (k : ℕ) × (c : Component) × (slice_get m.components k ≡ Some c) × (c.declaration.name ≡ name)
  pub flags : (x : ℕ) (y : ModuleLeaf) → slice_get (module_leaves m) x ≡ Some y → slice_get settable x ≡ Some (is_set y)

-- the module's leaves with their numbers, and these kinds and widths by numbers
abbrev pub numbering : TypedModule → Table → Numbering
numbering m table = record { number = number_of m; table = table }

-- Each leaf of the module has its own kind and width.
pub record HasTable (m : TypedModule) (table : Table) : Type 0 where
  pub leaf : (x : ℕ) (y : ModuleLeaf) → slice_get (module_leaves m) x ≡ Some y → table.leaf x ≡ Some (leaf_shape y.1)

-- What statements are to a leaf: what they make of the integer that was set before them, whether they are certain for it, and its live
-- connects.
pub record Meant : Type 0 where
  pub does : Instant → Option ℤ → Option ℤ
  pub certain : Bool
  pub lives : List (List Leaf)

-- Ground statements are this to the leaf of a number.
pub record IsMeant (n : Numbering) (x : ℕ) (meant : Meant) (made : List GroundStmt) : Type 0 where
  pub effects : (instant : Instant) (last : Option Value) → HasShapes n.table instant
      → option_map integer_of (in_turn (map (effect instant x) made) last) ≡ meant.does instant (option_map integer_of last)
  pub certain : is_certain x made ≡ meant.certain
  pub live : SameLives n meant.lives (live x made)

-- a leaf of the component with this number, where so many declarations stand before the body
abbrev pub meant_by : TypedModule → Leaf → ℕ → ℕ → List Stmt → Meant
meant_by m leaf k n body = record {
  does = λ instant. left_by (scene_at m instant) leaf k n body;
  certain = list_any (λ s. s.certain) (map (open_driving (type_in m) leaf k) body);
  lives = live_by (type_in m) leaf k n body;
}

-- nothing is done to it
abbrev pub left_alone : Meant
left_alone = record { does = λ instant last. last; certain = false; lives = [] }

-- the leaf of this place in what an expression has: it gets its value, whatever was before
abbrev pub set_to : TypedModule → Expr → ℕ → Bool → Meant
set_to m e j surely = record {
  does = λ instant last. slice_get (map integer_of (tree.value e (scene_at m instant))) j;
  certain = surely;
  lives = get_or (tree_reads.mentions e (type_in m)) j [] ∷ [];
}

-- the declaration is one of so many from one on
abbrev pub is_among : ℕ → ℕ → ℕ → Bool
is_among n count k = not (nat_lt k n) && nat_lt k (n + count)

-- a leaf of a node: its declaration sets it, and nothing else does
abbrev pub node_meant : TypedModule → Expr → ℕ → ℕ → ℕ → ℕ → Bool → Meant
node_meant m e j k n count surely = if is_among n count k then set_to m e j surely else left_alone

-- A leaf of a component of the module, by the places of both.
pub record Stands (m : TypedModule) (k j : ℕ) (c : Component) (leaf : TypeLeaf) : Type 0 where
  pub component : slice_get m.components k ≡ Some c
  pub listed : slice_get (leaves c.typ) j ≡ Some leaf

-- Ground statements are to each leaf that may be set what the statements of a body are to it, where the conditions around its declaration
-- aren't asked; they set the nodes that the body declares; and sources and conditions have the kinds and widths that they need.
pub record BodyDoes (m : TypedModule) (table : Table) (n : ℕ) (body : List Stmt) (made : List GroundStmt) : Type 0 where
  pub sets : (k j : ℕ) (c : Component) (leaf : TypeLeaf) → Stands m k j c leaf → is_set (c, leaf) ≡ true
      → IsMeant (numbering m table) (leaves_before m k + j) (meant_by m (leaf_of c leaf) k n body) made
  pub nodes : (k j : ℕ) (c : Component) (leaf : TypeLeaf) (e : Expr) → Stands m k j c leaf → c.declaration.sort ≡ A_node e → is_clock leaf ≡ false
      → IsMeant (numbering m table) (leaves_before m k + j) (node_meant m e j k n (length (body_labels body)) (is_certain (leaves_before m k + j) made)) made
  pub shaped : is_shaped table made ≡ true

-- These are the ground statements of a body before which so many leaves are declared, and behind which so many, whatever module it stands
-- in.
pub record IsBody (entries : Entries) (settable : List Bool) (body : List Stmt) (before behind : ℕ) (made : List GroundStmt) : Type 0 where
  pub behind_it : (m : TypedModule) (n : ℕ) → IsViewOf m entries settable → Declares m n (body_labels body) → before ≡ leaves_before m n
      → behind ≡ leaves_before m (n + length (body_labels body))
  pub does : (holder : Module) (m : TypedModule) (table : Table) (n : ℕ) → HasTypes holder m → IsViewOf m entries settable → HasTable m table
      → Declares m n (body_labels body) → before ≡ leaves_before m n → BodyDoes m table n body made

-- Whole bodies

-- What it is for ground statements to be the body of a module with this table of leaves.
pub record IsWholeBody (m : TypedModule) (listed : List GroundLeaf) (made : List GroundStmt) : Type 0 where
  pub values : (x : ℕ) (y : ModuleLeaf) (instant : Instant) → slice_get (module_leaves m) x ≡ Some y → is_set y ≡ true → HasShapes (table_of listed) instant
      → option_map integer_of (drives instant x made) ≡ tree_drives.drives (scene_at m instant) (leaf_of y.0 y.1) y.0.declaration.block
  pub reads : (x : ℕ) (y : ModuleLeaf) → slice_get (module_leaves m) x ≡ Some y → is_set y ≡ true
      → SameReads m (tree_reads.joined (tree_loops.live (type_in m) (leaf_of y.0 y.1) y.0.declaration.block)) (joined (live x made))
  pub nodes : (x : ℕ) (y : ModuleLeaf) (e : Expr) (k : ℕ) (instant : Instant) → slice_get (module_leaves m) x ≡ Some y → y.0.declaration.sort ≡ A_node e → is_clock y.1 ≡ false
      → slice_get (leaves y.0.typ) k ≡ Some y.1 → HasShapes (table_of listed) instant
      → option_map integer_of (drives instant x made) ≡ slice_get (map integer_of (tree.value e (scene_at m instant))) k
  pub node_reads : (x : ℕ) (y : ModuleLeaf) (e : Expr) (k : ℕ) (mentioned : List Leaf) → slice_get (module_leaves m) x ≡ Some y → y.0.declaration.sort ≡ A_node e → is_clock y.1 ≡ false
      → slice_get (leaves y.0.typ) k ≡ Some y.1 → slice_get (tree_reads.mentions e (type_in m)) k ≡ Some mentioned → SameReads m mentioned (joined (live x made))
  pub shaped : is_shaped (table_of listed) made ≡ true
