-- What the walk through a body, from its last statement to its first, keeps and finds.
use Rattle.std.specs.Prelude.{◌≡◌, ◌&&◌, ◌||◌, ◌++◌, not, Bool, true, false, List, [], ◌∷◌, flat_map, if◌then◌else◌}
use Rattle.std.specs.List.{list_any, list_all}
use Rattle.fir_types.specs.declared.name.Name.{Name}
use Rattle.fir_types.specs.declared.leaf.TypeLeaf.{TypeLeaf}
use Rattle.fir_types.specs.Leaves.{leaves}
use Rattle.fir_tree.specs.declared.stmt.Stmt.{Stmt, fold-Stmt}
use Rattle.fir_tree.specs.declared.stmt.Arm.{Arm, fold-Arm}
use Rattle.fir_tree.specs.declared.stmt.Stmt.TheOpen.{Stmt-F, Arm-F}
use Rattle.fir_meaning.specs.Components.{Leaf, Sort, An_input, An_output, A_wire, An_instance, A_memory, flow_of}
use Rattle.fir_meaning.specs.Mentions.{Scope, region_of}
use Rattle.fir_meaning.specs.Certain.{surely_names, must_be_driven}
use Rattle.drive_check.specs.declared.fault.DriveFault.{DriveFault}
use Rattle.drive_check.specs.declared.fault.DriveFault.TheVariants.{NotInitialized}
use Rattle.drive_check.specs.declared.leaf_set.LeafKey.{LeafKey}
use Rattle.drive_check.specs.declared.undriven.Owner.{Owner}
use Rattle.drive_check.specs.declared.undriven.Owner.TheVariants as owner
use Rattle.drive_check.specs.Keys.{is_among}
use Rattle.drive_check.specs.Sites.{place_of_leaf}

-- Leaves that are certain, and faults.

abbrev pub Certain : Type 0
Certain = Leaf → Bool

-- a statement: the leaves that it is certain for, and the faults of its declarations, where these leaves are certain behind it
pub record Walked : Type 0 where
  pub certain : Certain
  pub faults : Certain → List DriveFault

-- a block: the leaves that it is certain for, and the faults of its declarations
pub record Block : Type 0 where
  pub certain : Certain
  pub faults : List DriveFault

abbrev pub any_certain : List Walked → Certain
any_certain ws leaf = list_any (λ w. w.certain leaf) ws

abbrev pub faults_from : List Walked → List DriveFault
faults_from [] = []
faults_from (w ∷ ws) = faults_from ws ++ w.faults (any_certain ws)

abbrev pub block_of : List Walked → Block
block_of ws = record { certain = any_certain ws; faults = faults_from ws }

-- a component's sort, as far as its leaves are concerned
abbrev pub sort_of : Owner → Sort
sort_of owner.Input = An_input
sort_of owner.Output = An_output
sort_of owner.Wire = A_wire
sort_of owner.Instance = An_instance 0
sort_of (owner.Memory memory) = A_memory memory.now

abbrev pub leaf_faults : Certain → Name → Sort → TypeLeaf → List DriveFault
leaf_faults certain name sort leaf =
    if must_be_driven sort (flow_of sort leaf.flip) && not (certain (record { component = name.id; way = leaf.path }))
    then NotInitialized (place_of_leaf name sort leaf.path) ∷ [] else []

module _ (types : Scope) where
  abbrev pub undriven : Certain → Name → Sort → List DriveFault
  undriven certain name sort = flat_map (leaf_faults certain name sort) (leaves (types name.id))

  abbrev pub quiet : Certain → Walked
  quiet certain = record { certain = certain; faults = λ behind. [] }

  abbrev pub declares : Name → Sort → Walked
  declares name sort = record { certain = λ leaf. false; faults = λ behind. undriven behind name sort }

  abbrev pub of_stmt : Stmt-F Walked Block → Walked
  of_stmt (Stmt-F.Wire name typ) = declares name A_wire
  of_stmt (Stmt-F.Mem memory) = declares memory.name (A_memory memory)
  of_stmt (Stmt-F.Inst name target) = declares name (An_instance target.id)
  of_stmt (Stmt-F.Connect left right) = quiet (λ leaf. surely_names false (region_of types left) leaf || surely_names true (region_of types right) leaf)
  of_stmt (Stmt-F.Invalidate target) = quiet (λ leaf. surely_names false (region_of types target) leaf || surely_names true (region_of types target) leaf)
  of_stmt (Stmt-F.When arms other) = record {
    certain = λ leaf. list_all (λ arm. arm.certain leaf) arms && any_certain other leaf;
    faults = λ behind. faults_from other ++ flat_map (λ arm. arm.faults) arms;
  }
  of_stmt _ = quiet (λ leaf. false)

  abbrev pub of_arm : Arm-F Walked Block → Block
  of_arm arm = block_of arm.body

  abbrev pub walked : Stmt → Walked
  walked = fold-Stmt Walked Block of_stmt of_arm

  abbrev pub walked_arm : Arm → Block
  walked_arm = fold-Arm Walked Block of_stmt of_arm

-- a statement was walked
pub record Walks (w : Walked) (old : List LeafKey) (faults : List DriveFault) (new : List LeafKey) (faults' : List DriveFault) : Type 0 where
  pub certain : (leaf : Leaf) → is_among new leaf ≡ (w.certain leaf || is_among old leaf)
  pub told : faults' ≡ faults ++ w.faults (is_among old)
