-- Numbers for the leaves of a module, and which of them are those of a part (FIRRTL specification 3.0, "References" and "Types").
use Rattle.std.specs.Prelude.{◌≡◌, ℕ, ◌+◌, ◌++◌, Bool, true, false, List, [], ◌∷◌, slice_get, Option, Some, None, Contains}
use Rattle.fir_types.specs.declared.fir_type.FirType.{FirType}
use Rattle.fir_types.specs.declared.fir_type.Field.{Field, fold-Field}
use Rattle.fir_types.specs.declared.leaf.TypeLeaf.{TypeLeaf}
use Rattle.fir_types.specs.declared.leaf.PathStep.{PathStep}
use Rattle.fir_types.specs.Leaves.{leaves, under}
use Rattle.ground_net.specs.Grounds.{Instant}
use Rattle.ground_net.specs.Shapes.{Table, HasShapes}
use Rattle.ground_net.specs.Cycles.{integer_at}
use Rattle.fir_meaning.specs.Components.{Leaf}
use Rattle.fir_meaning.specs.Values.{Scene, Spot, scene_with}
use Rattle.fir_meaning.specs.Mentions.{Region}
use Rattle.fir_meaning.specs.WellTyped.{leaf_shape, is_narrow, narrow_layer}
use Rattle.ground_exprs.specs.declared.part.Part.{Part}
use Rattle.ground_exprs.specs.declared.part.Pick.{Pick}
use Rattle.ground_exprs.specs.Parts.{picked, choices, index_mentions}

-- the same of a field
abbrev pub narrow_field : Field → Bool
narrow_field = fold-Field Bool Bool Bool narrow_layer (λ f. f.typ) (λ t. t.shape)

-- A number for each leaf of a module, where there is one, and the kinds and widths by numbers.
pub record Numbering : Type 0 where
  pub number : Leaf → Option ℕ
  pub table : Table

-- The scene that an instant shows: 0 where there is no such leaf.
abbrev pub scene_seen : (ℕ → FirType) → Numbering → Instant → Scene
scene_seen types n instant = scene_with types (λ c way. integer_at instant (n.number (record { component = c; way = way })))

-- The leaves of the part of a component at a way have the numbers from this one on, in order.
pub record StandsAt (n : Numbering) (c : ℕ) (typ : FirType) (way : List PathStep) (first : ℕ) : Type 0 where
  pub numbers : (j : ℕ) (leaf : TypeLeaf) → slice_get (leaves typ) j ≡ Some leaf → n.number (record { component = c; way = way ++ leaf.path }) ≡ Some (first + j)
  pub shapes : (j : ℕ) (leaf : TypeLeaf) → slice_get (leaves typ) j ≡ Some leaf → n.table.leaf (first + j) ≡ Some (leaf_shape leaf)

-- It does so at a way that is there; there is no first number where there is no way.
abbrev pub Reaches : Numbering → ℕ → FirType → Option (List PathStep) → Option ℕ → Type 0
Reaches n c typ (Some way) (Some first) = StandsAt n c typ way first
Reaches n c typ None None = Unit {0}
Reaches n c typ _ _ = ⊥

-- The leaves are these numbers, both ways.
pub record SameLeaves (n : Numbering) (leaves : List Leaf) (numbers : List ℕ) : Type 0 where
  pub only : (x : ℕ) → Contains numbers x → (z : Leaf) × Contains leaves z × (n.number z ≡ Some x)
  pub all : (z : Leaf) → Contains leaves z → (x : ℕ) × (n.number z ≡ Some x) × Contains numbers x

-- there is an index on the way
abbrev pub is_dynamic : List Pick → Bool
is_dynamic [] = false
is_dynamic (pick ∷ picks) = true

-- The part is what a reference names at each instant, and may name whatever is seen; it has this type.
pub record IsPart (n : Numbering) (region : Region) (spot : Instant → Spot) (typ : FirType) (part : Part) : Type 0 where
  pub region_type : region.typ ≡ typ
  pub spot_type : (instant : Instant) → (spot instant).typ ≡ typ
  pub component : (instant : Instant) → (spot instant).component ≡ region.component
  pub reaches : (instant : Instant) → HasShapes n.table instant → Reaches n region.component typ (spot instant).way (picked instant part.picks part.first)
  pub each : (x : ℕ) → Contains (choices part.picks part.first) x → (way : List PathStep) × Contains region.ways way × StandsAt n region.component typ way x
  pub all : (way : List PathStep) → Contains region.ways way → (x : ℕ) × Contains (choices part.picks part.first) x × StandsAt n region.component typ way x
  pub indices : SameLeaves n region.indices (index_mentions part.picks)
  pub dynamic : region.dynamic ≡ is_dynamic part.picks
  pub narrow : is_narrow typ ≡ true

-- Of each leaf of the inner type the outer one has a leaf, so many leaves further on and behind this step.
pub record IsInside (outer : FirType) (next : PathStep) (inner : FirType) (before : ℕ) : Type 0 where
  pub each : (j : ℕ) (leaf : TypeLeaf) → slice_get (leaves inner) j ≡ Some leaf → (flip : Bool) × (slice_get (leaves outer) (before + j) ≡ Some (under (next ∷ []) flip leaf))
  pub narrow : is_narrow outer ≡ true → is_narrow inner ≡ true
