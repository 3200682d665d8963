-- What the walk through a module knows of the drivers of leaves.
use Rattle.std.specs.Prelude.{◌≡◌, ◌⊎◌, ⊤, ℕ, Bool, true, false, List, [], ◌∷◌, ◌++◌, map, Option, Some, None, option_map, fold, if◌then◌else◌}
use Rattle.std.specs.Global.{Vec}
use Rattle.fir_types.specs.declared.leaf.PathStep.{PathStep}
use Rattle.std.specs.List.{list_any}
use Rattle.fir_types.specs.declared.leaf.TypeLeaf.{TypeLeaf}
use Rattle.fir_types.specs.Leaves.{leaves, is_clock}
use Rattle.fir_tree.specs.declared.expr.Expr.{Expr}
use Rattle.fir_tree.specs.declared.stmt.Arm.{Arm, fold-Arm}
use Rattle.fir_meaning.specs.Components.{Leaf}
use Rattle.fir_meaning.specs.Drives.{same_leaf}
use Rattle.fir_meaning.specs.Mentions.{Scope, Region, region_of}
use Rattle.fir_meaning.specs.Certain.{may_be, may_name}
use Rattle.fir_meaning.specs.ClockRoot.{Driver, Undriven, No_driver, From, source_for, named_leaves, of_stmt, of_arm}
use Rattle.drive_check.specs.declared.leaf_set.Step.{Step}
use Rattle.drive_check.specs.declared.leaf_set.LeafKey.{LeafKey}
use Rattle.drive_check.specs.Keys.{leaf_of_key, step_of}
use Rattle.clock_check.specs.declared.reach.Reach.{Reach}

-- the driver of a leaf that is driven, from this leaf or from none
abbrev pub driver_by : Option Leaf → Driver
driver_by (Some leaf) = From leaf
driver_by None = No_driver

-- what is known of a leaf
abbrev pub driver_of : List (LeafKey × Option LeafKey) → Leaf → Driver
driver_of [] leaf = Undriven
driver_of (e ∷ entries) leaf = if same_leaf (leaf_of_key e.0) leaf then driver_by (option_map leaf_of_key e.1) else driver_of entries leaf

-- the source that is told
abbrev pub source_in : Driver → Option Leaf
source_in (From leaf) = Some leaf
source_in _ = None

-- the ways that are meant
abbrev pub ways_of : List (Vec Step) → List (List PathStep)
ways_of ways = map (λ way. map step_of way.items) ways

-- what a reference may name, but for the leaves that its indices mention
abbrev pub bare : Region → Region
bare region = record region { indices = [] }

-- the leaves behind these ways and a path
abbrev pub front_at : ℕ → List (Vec Step) → List PathStep → List Leaf
front_at component ways path = map (λ way. record { component = component; way = way ++ path }) (ways_of ways)

-- the leaf is behind this way and the path
abbrev pub is_behind : ℕ → List PathStep → Leaf → Vec Step → Bool
is_behind component path leaf way = same_leaf (record { component = component; way = map step_of way.items ++ path }) leaf

abbrev pub region_at : Reach → Region
region_at reach = record { component = reach.component; typ = reach.part.typ.now; ways = ways_of reach.ways.items; dynamic = reach.dynamic; indices = [] }

-- it is this; or it has no leaves, or no way leads to it
abbrev pub Reaches : Option Region → Option Reach → Type 0
Reaches (Some region) (Some reach) = bare region ≡ region_at reach
Reaches (Some region) None = (leaves region.typ ≡ []) ⊎ (region.ways ≡ [])
Reaches None (Some reach) = ⊥
Reaches None None = ⊤

-- the component of this name has a Clock leaf
abbrev pub clocked : Scope → ℕ → Bool
clocked types component = list_any is_clock (leaves (types component))

-- the driver of a leaf behind a connect, from what was known of it before
abbrev pub connected : Scope → Leaf → Expr → Expr → Driver → Driver
connected types leaf left right last =
    if may_name false (region_of types left) leaf then source_for false leaf (region_of types left) (named_leaves types right)
    else if may_name true (region_of types right) leaf then source_for true leaf (region_of types right) (named_leaves types left)
    else last

-- and behind an `invalidate`
abbrev pub invalidated : Scope → Leaf → Expr → Driver → Driver
invalidated types leaf target last =
    if may_name false (region_of types target) leaf then No_driver
    else if may_name true (region_of types target) leaf then No_driver
    else last

-- the last of these sources that stands beside a part that may be the leaf
abbrev pub linked : Bool → Region → Leaf → Driver → List (TypeLeaf × Leaf) → Driver
linked flip region leaf = fold (λ driver both. if may_be flip region leaf both.0 then From both.1 else driver)

-- an arm does what its statements do
abbrev pub arm_driven : Scope → Leaf → Arm → Driver → Driver
arm_driven types leaf = fold-Arm (Driver → Driver) (Driver → Driver) (of_stmt types leaf) (of_arm types leaf)
