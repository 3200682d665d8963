-- Connects, invalidates and nodes as ground statements, leaf by leaf (FIRRTL specification 3.0, "Connects", "Invalidates", "Nodes" and
-- "Last Connect Semantics").
use Rattle.std.specs.Prelude.{◌≡◌, ◌≢◌, ℕ, ◌+◌, ◌||◌, Bool, true, false, List, [], ◌∷◌, ◌++◌, map, slice_get, ℤ, Option, Some, option_map}
use Rattle.bit_words.specs.declared.value.Value.{Value}
use Rattle.bit_words.specs.Values.{integer_of}
use Rattle.fir_types.specs.declared.fir_type.FirType.{FirType}
use Rattle.fir_types.specs.declared.leaf.TypeLeaf.{TypeLeaf}
use Rattle.fir_types.specs.Leaves.{leaves, is_clock}
use Rattle.fir_tree.specs.declared.expr.Expr.{Expr}
use Rattle.ground_net.specs.declared.circuit.GroundStmt.{GroundStmt}
use Rattle.ground_net.specs.Grounds as net
use Rattle.ground_net.specs.Grounds.{Instant, value, mentions}
use Rattle.ground_net.specs.Statements.{in_turn, effect, is_certain, live}
use Rattle.ground_net.specs.Shapes.{Table, HasShapes, shape}
use Rattle.ground_net.specs.StatementShapes.{is_shaped}
use Rattle.fir_meaning.specs.Components.{Leaf}
use Rattle.fir_meaning.specs.Values.{Scene}
use Rattle.fir_meaning.specs.Drives.{left_in, set_by_connect, set_by_invalidate}
use Rattle.fir_meaning.specs.Mentions as tree_reads
use Rattle.fir_meaning.specs.Mentions.{Scope, region_of}
use Rattle.fir_meaning.specs.Certain.{surely_names}
use Rattle.fir_meaning.specs.Loops.{driven_from}
use Rattle.fir_meaning.specs.WellTyped.{leaf_shape}
use Rattle.ground_exprs.specs.Numbers.{Numbering, SameLeaves, scene_seen}
use Rattle.ground_exprs.specs.declared.source.Source.{Source}
use Rattle.ground_exprs.specs.Sources.{Entries, Knows}

-- No two leaves have one number.
abbrev pub IsOneToOne : Numbering → Type 0
IsOneToOne n = (a b : Leaf) (x : ℕ) → n.number a ≡ Some x → n.number b ≡ Some x → a ≡ b

-- Statements may set the leaf of this number.
abbrev pub IsSettable : List Bool → ℕ → Type 0
IsSettable settable x = slice_get settable x ≡ Some true

-- there is none
abbrev pub has_none : {A : Type 0} → List A → Bool
has_none [] = true
has_none (x ∷ xs) = false

-- The live connects of a leaf in a text and those of its number: there are some on both sides or none, and together they mention the
-- same leaves. So it stays when a condition is put before each of them.
pub record SameLives (n : Numbering) (told : List (List Leaf)) (lives : List (List ℕ)) : Type 0 where
  pub none : has_none lives ≡ has_none told
  pub leaves : SameLeaves n (tree_reads.joined told) (net.joined lives)

-- What ground statements are to a leaf that may be set, by its number: at every instant in range they make of what was set before what
-- the text makes of it; they are certain for it where the text is; and they have the same live connects.
pub record DoesTo (n : Numbering) (types : Scope) (does : Scene → Leaf → Option ℤ → Option ℤ) (surely : Leaf → Bool) (lives : Leaf → List (List Leaf))
    (made : List GroundStmt) (leaf : Leaf) (x : ℕ) : Type 0 where
  pub effects : (instant : Instant) (last : Option Value) → HasShapes n.table instant
      → option_map integer_of (in_turn (map (effect instant x) made) last) ≡ does (scene_seen types n instant) leaf (option_map integer_of last)
  pub certain : is_certain x made ≡ surely leaf
  pub live : SameLives n (lives leaf) (live x made)

-- The statements are nothing to the leaf of this number.
pub record LeavesAlone (made : List GroundStmt) (x : ℕ) : Type 0 where
  pub effects : (instant : Instant) (last : Option Value) → in_turn (map (effect instant x) made) last ≡ last
  pub certain : is_certain x made ≡ false
  pub live : live x made ≡ []

-- They do so to each leaf that may be set, and leave the others alone; sources and conditions have the kinds and widths that they need.
pub record Does (n : Numbering) (settable : List Bool) (types : Scope) (does : Scene → Leaf → Option ℤ → Option ℤ) (surely : Leaf → Bool) (lives : Leaf → List (List Leaf))
    (made : List GroundStmt) : Type 0 where
  pub sets : (leaf : Leaf) (x : ℕ) → IsSettable settable x → n.number leaf ≡ Some x → DoesTo n types does surely lives made leaf x
  pub others : (x : ℕ) → slice_get settable x ≢ Some true → LeavesAlone made x
  pub shaped : is_shaped n.table made ≡ true

-- The statements do what a connect does, wherever the components stand.
abbrev pub IsConnect : Entries → List Bool → Expr → Expr → List GroundStmt → Type 0
IsConnect entries settable left right made = (n : Numbering) (types : Scope) → Knows n types entries → IsOneToOne n → Does n settable types
    (λ scene leaf last. left_in leaf last (set_by_connect scene left right))
    (λ leaf. surely_names false (region_of types left) leaf || surely_names true (region_of types right) leaf)
    (λ leaf. driven_from false leaf (tree_reads.mentions right types) (region_of types left) ++ driven_from true leaf (tree_reads.mentions left types) (region_of types right))
    made

-- They do what an `invalidate` does.
abbrev pub IsInvalidate : Entries → List Bool → Expr → List GroundStmt → Type 0
IsInvalidate entries settable target made = (n : Numbering) (types : Scope) → Knows n types entries → IsOneToOne n → Does n settable types
    (λ scene leaf last. left_in leaf last (set_by_invalidate scene target))
    (λ leaf. surely_names false (region_of types target) leaf || surely_names true (region_of types target) leaf)
    (λ leaf. driven_from false leaf [] (region_of types target) ++ driven_from true leaf [] (region_of types target))
    made

-- Nodes

-- The statement of a node sets this leaf to this source, whatever it held before.
pub record SetsTo (made : List GroundStmt) (x : ℕ) (s : Source) : Type 0 where
  pub effects : (instant : Instant) (last : Option Value) → in_turn (map (effect instant x) made) last ≡ Some (value s.expr instant)
  pub certain : is_certain x made ≡ true
  pub live : live x made ≡ mentions s.expr ∷ []

-- The statements set each leaf of a node, whose first leaf has this number, to its source, but no Clock leaf and no other leaf.
pub record IsNode (typ : FirType) (first : ℕ) (sources : List Source) (made : List GroundStmt) : Type 0 where
  pub sets : (j : ℕ) (leaf : TypeLeaf) (s : Source) → slice_get (leaves typ) j ≡ Some leaf → is_clock leaf ≡ false → slice_get sources j ≡ Some s → SetsTo made (first + j) s
  pub others : (x : ℕ) → ((j : ℕ) (leaf : TypeLeaf) → slice_get (leaves typ) j ≡ Some leaf → is_clock leaf ≡ false → x ≢ first + j) → LeavesAlone made x
  pub shaped : (table : Table)
      → ((j : ℕ) (leaf : TypeLeaf) (s : Source) → slice_get (leaves typ) j ≡ Some leaf → is_clock leaf ≡ false → slice_get sources j ≡ Some s
      → (shape s.expr table ≡ Some (leaf_shape leaf)) × (table.leaf (first + j) ≡ Some (leaf_shape leaf)))
      → is_shaped table made ≡ true
