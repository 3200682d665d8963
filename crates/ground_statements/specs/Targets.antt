-- The leaves that a statement may set through dynamic indices, with the conditions under which it does.
use Rattle.std.specs.Prelude.{◌≡◌, ℕ, ◌+◌, ◌*◌, ◌^◌, nat_lt, min, Bool, true, false, List, [], ◌∷◌, ◌++◌, map, flat_map, slice_get, pos, Option, Some, None, if◌then◌else◌}
use Rattle.std.specs.List.{range_with_len, list_all}
use Rattle.bit_words.specs.declared.value.Kind.TheVariants.{Unsigned}
use Rattle.prim_ops.specs.Values.{fitted}
use Rattle.prim_ops.specs.declared.operation.PrimOp.TheVariants.{Eq}
use Rattle.fir_types.specs.declared.fir_type.FirType.{FirType}
use Rattle.fir_types.specs.declared.leaf.TypeLeaf.{TypeLeaf}
use Rattle.fir_types.specs.Leaves.{leaves}
use Rattle.ground_net.specs.declared.ground.Ground.{Ground}
use Rattle.ground_net.specs.declared.ground.Ground.TheVariants.{Op, Const}
use Rattle.ground_net.specs.declared.circuit.GroundStmt.{GroundStmt}
use Rattle.ground_net.specs.declared.circuit.GroundStmt.TheVariants.{Connect}
use Rattle.fir_meaning.specs.Components.{kind_of_leaf, width_of_leaf}
use Rattle.fir_meaning.specs.Drives.{is_turned}
use Rattle.ground_exprs.specs.declared.part.Pick.{Pick}
use Rattle.ground_exprs.specs.declared.part.Part.{Part}
use Rattle.ground_exprs.specs.declared.source.Source.{Source}
use Rattle.ground_exprs.specs.Parts.{is_nowhere}
use Rattle.ground_exprs.specs.Sources.{IsFitted}
use Rattle.ground_statements.specs.declared.targets.Target.{Target}
use Rattle.ground_statements.specs.Connects.{has_none}

-- The index is this number.
abbrev pub equals : Ground → ℕ → Ground
equals index k = Op Eq (index ∷ Const (fitted Unsigned 32 (pos k)) ∷ []) []

-- the leaf of an element is set where the index picks the element
abbrev pub under_condition : Ground → Target → Target
under_condition g t = record { leaf = t.leaf; conditions = t.conditions ++ g ∷ [] }

-- The leaves that a leaf of a part may be, by its number in the elements with the number 0.
abbrev pub targets : List Pick → ℕ → List Target
targets [] leaf = record { leaf = leaf; conditions = [] } ∷ []
targets (pick ∷ picks) leaf = flat_map (λ k. map (under_condition (equals pick.index k)) (targets picks (leaf + k * pick.stride))) (range_with_len 0 pick.length)

-- Numbers of 32 bits count the elements of each vector on the way.
abbrev pub are_numbered : List Pick → Bool
are_numbered picks = list_all (λ pick. nat_lt pick.length (2 ^ 32)) picks

-- They do, unless a vector on the way has no elements: then nothing is behind it, however long the others are.
abbrev pub AreCounted : List Pick → Type 0
AreCounted picks = is_nowhere picks ≡ false → are_numbered picks ≡ true

-- the flag of a leaf; none is false
abbrev pub is_allowed : Option Bool → Bool
is_allowed (Some b) = b
is_allowed None = false

-- A connect for each of these leaves that may be set.
abbrev pub set_each : List Bool → Ground → List Target → List GroundStmt
set_each settable source [] = []
set_each settable source (t ∷ ts) = (if is_allowed (slice_get settable t.leaf) then Connect t.leaf t.conditions source ∷ [] else []) ++ set_each settable source ts

-- the connects of one leaf, where it has a source
abbrev pub set_one : List Bool → List Pick → ℕ → Option Source → List GroundStmt
set_one settable picks number (Some s) = set_each settable s.expr (targets picks number)
set_one settable picks number None = []

-- The leaves with a source are set, one after another, each to its source.
abbrev pub set_leaves : List Bool → List Pick → ℕ → List (Option Source) → List GroundStmt
set_leaves settable picks number [] = []
set_leaves settable picks number (fit ∷ fits) = set_one settable picks number fit ++ set_leaves settable picks (number + 1) fits

-- What a leaf is set to: the source beside it, fitted to the leaf's kind and width, and 0 where there is none.
abbrev pub FitsFrom : Option Source → Source → Type 0
FitsFrom (Some source) fit = IsFitted source fit
FitsFrom None fit = fit.expr ≡ Const (fitted fit.kind fit.width (pos 0))

pub record IsFit (flip : Bool) (leaf : TypeLeaf) (source : Option Source) (fit : Source) : Type 0 where
  pub turned : is_turned flip leaf ≡ true
  pub kind : fit.kind ≡ kind_of_leaf leaf
  pub width : fit.width ≡ min (width_of_leaf leaf) 128
  pub fits : FitsFrom source fit

-- a leaf of the other orientation is not set
abbrev pub FitsLeaf : Bool → TypeLeaf → Option Source → Option Source → Type 0
FitsLeaf flip leaf source (Some fit) = IsFit flip leaf source fit
FitsLeaf flip leaf source None = is_turned flip leaf ≡ false

abbrev pub first_of : {A : Type 0} → List A → Option A
first_of [] = None
first_of (x ∷ xs) = Some x

abbrev pub rest_of : {A : Type 0} → List A → List A
rest_of [] = []
rest_of (x ∷ xs) = xs

-- Leaf by leaf, with the sources beside them.
abbrev pub AreFits : Bool → List TypeLeaf → List Source → List (Option Source) → Type 0
AreFits flip [] sources [] = Unit {0}
AreFits flip (leaf ∷ ls) sources (fit ∷ fits) = FitsLeaf flip leaf (first_of sources) fit × AreFits flip ls (rest_of sources) fits
AreFits flip _ sources _ = ⊥

-- The leaves of one orientation of a part are set to the sources beside them. Of a part without leaves nothing is asked.
pub record IsSide (settable : List Bool) (flip : Bool) (typ : FirType) (part : Part) (sources : List Source) (made : List GroundStmt) : Type 0 where
  pub numbered : has_none (leaves typ) ≡ false → AreCounted part.picks
  pub fits : List (Option Source)
  pub fit : AreFits flip (leaves typ) sources fits
  pub is : made ≡ set_leaves settable part.picks part.first fits
