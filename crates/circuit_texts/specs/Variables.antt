-- The leaves of a run by their names, and the variables of a dump.
use Rattle.std.specs.Prelude.{◌≡◌, ℕ, ◌<◌, false, List, [], ◌∷◌, map, slice_get, Some, Contains}
use Rattle.std.specs.List.{AllZip}
use Rattle.fir_tree.specs.LeafNames.{Texts}
use Rattle.fir_meaning.specs.Components.{Design, TypedModule, is_clock, kind_of_leaf, width_of_leaf, module_named}
use Rattle.fir_meaning.specs.States.{watched_leaves}
use Rattle.ground_net.specs.declared.net.PortLeaf.{PortLeaf}
use Rattle.net_of_circuit.specs.FlatOrder.{Placed, InFlatOrder, Standing, all_leaves, flat_of}
use Rattle.net_of_circuit.specs.NetOf.{flat_text}

-- These are all leaves of the run, in flat order.
pub record AreLeavesOfRun (design : Design) (all : List Standing) : Type 0 where
  pub main : TypedModule
  pub found : module_named design design.main ≡ Some main
  pub placed : List Placed
  pub order : InFlatOrder design [] main main.components placed
  pub are : all ≡ all_leaves placed

-- The leaf of this number has this flat name, and it is no Clock.
pub record HasName (texts : Texts) (all : List Standing) (name : List ℕ) (x : ℕ) : Type 0 where
  pub leaf : Standing
  pub there : slice_get all x ≡ Some leaf
  pub named : flat_text texts (flat_of leaf) ≡ name
  pub valued : is_clock leaf.1 ≡ false

-- It is the first such leaf.
pub record IsFirstOfName (texts : Texts) (all : List Standing) (name : List ℕ) (x : ℕ) : Type 0 where
  pub has : HasName texts all name x
  pub first : (z : ℕ) → z < x → HasName texts all name z → ⊥

-- A variable is a leaf: its number in flat order, its flat name, its kind and its width.
pub record IsVariable (texts : Texts) (all : List Standing) (var : PortLeaf) (leaf : Standing) : Type 0 where
  pub there : slice_get all var.leaf ≡ Some leaf
  pub name : var.name ≡ flat_text texts (flat_of leaf)
  pub kind : var.kind ≡ kind_of_leaf leaf.1
  pub width : var.width ≡ width_of_leaf leaf.1

-- Which leaves are dumped: for each word the first leaf of that name; and where there is no word, those by which main is watched.
abbrev pub AreChosen : Texts → Design → List Standing → List (List ℕ) → List PortLeaf → List Standing → Type 0
AreChosen texts design all [] vars leaves = map flat_of leaves ≡ watched_leaves design
AreChosen texts design all (name ∷ names) vars leaves = AllZip (λ word var. IsFirstOfName texts all word var.leaf) (name ∷ names) vars

-- The variables of a dump, and their leaves.
pub record AreVariables (texts : Texts) (design : Design) (all : List Standing) (names : List (List ℕ)) (vars : List PortLeaf) (leaves : List Standing) : Type 0 where
  pub chosen : AreChosen texts design all names vars leaves
  pub each : AllZip (IsVariable texts all) vars leaves

-- One of the words names no leaf of the run other than a Clock.
pub record NamesNoLeaf (texts : Texts) (design : Design) (names : List (List ℕ)) : Type 0 where
  pub all : List Standing
  pub of_run : AreLeavesOfRun design all
  pub name : List ℕ
  pub among : Contains names name
  pub none : (x : ℕ) → HasName texts all name x → ⊥
