-- Leaves that are driven whatever the values are (FIRRTL specification 3.0, "Initialization" under "Conditionals").
use Rattle.std.specs.Prelude.{◌≡◌, ℕ, ◌&&◌, ◌||◌, not, Bool, true, false, List, Option, Some, None}
use Rattle.std.specs.List.{list_any, list_all}
use Rattle.fir_types.specs.declared.leaf.TypeLeaf.{TypeLeaf}
use Rattle.fir_types.specs.Leaves.{leaves}
use Rattle.fir_tree.specs.declared.stmt.Stmt.{Stmt, fold-Stmt}
use Rattle.fir_tree.specs.declared.stmt.Stmt.TheOpen.{Stmt-F, Arm-F}
use Rattle.fir_meaning.specs.Components.{Design, TypedModule, Component, Leaf, Sort, A_wire, Flow, Sink, flow_of, type_in}
use Rattle.fir_meaning.specs.Drives.{same_leaf, is_turned}
use Rattle.fir_meaning.specs.Mentions.{Scope, Region, region_of, leaves_at}
use Rattle.fir_meaning.specs.States.{Stands, leaf_of}

-- The part of this orientation may be the leaf: it is, for some element that an index may pick.
abbrev pub may_be : Bool → Region → Leaf → TypeLeaf → Bool
may_be flip region leaf part = is_turned flip part && list_any (λ at. same_leaf at leaf) (leaves_at region part.path)

-- The reference may name the leaf, as a part of this orientation.
abbrev pub may_name : Bool → Option Region → Leaf → Bool
may_name flip (Some region) leaf = list_any (may_be flip region leaf) (leaves region.typ)
may_name flip None leaf = false

-- There is no dynamic index in the reference.
abbrev pub is_static : Option Region → Bool
is_static (Some region) = not region.dynamic
is_static None = false

-- It names the leaf whatever the values are.
abbrev pub surely_names : Bool → Option Region → Leaf → Bool
surely_names flip region leaf = is_static region && may_name flip region leaf

module _ (types : Scope) (leaf : Leaf) where
  -- A connect is certain for the leaf where the reference on the driven side has no dynamic index; so is an `invalidate` of
  -- it; and a `when` with an `else` all of whose branches are.
  abbrev pub of_stmt : Stmt-F Bool Bool → Bool
  of_stmt (Stmt-F.Connect left right) = surely_names false (region_of types left) leaf || surely_names true (region_of types right) leaf
  of_stmt (Stmt-F.Invalidate target) = surely_names false (region_of types target) leaf || surely_names true (region_of types target) leaf
  of_stmt (Stmt-F.When arms other) = list_all (λ arm. arm) arms && list_any (λ s. s) other
  of_stmt _ = false

  -- An arm is certain where one of its statements is.
  abbrev pub of_arm : Arm-F Bool Bool → Bool
  of_arm a = list_any (λ s. s) a.body

  -- A statement drives the leaf whatever the values are.
  abbrev pub certain : Stmt → Bool
  certain = fold-Stmt Bool Bool of_stmt of_arm

  -- A list of statements is certain for the leaf where one of them is.
  abbrev pub is_certain : List Stmt → Bool
  is_certain = list_any certain

-- The leaf must be driven: it is a sink, or a leaf of a wire.
abbrev pub must_be_driven : Sort → Flow → Bool
must_be_driven A_wire flow = true
must_be_driven sort Sink = true
must_be_driven sort _ = false

-- A circuit is initialized where, at every path, the statements behind the declaration of each such leaf are certain for it.
-- A Clock leaf is no exception.
pub record IsInitialized (design : Design) : Type 0 where
  pub covered : (path : List ℕ) (m : TypedModule) (c : Component) (leaf : TypeLeaf) → Stands design path m c leaf
      → must_be_driven c.declaration.sort (flow_of c.declaration.sort leaf.flip) ≡ true → is_certain (type_in m) (leaf_of c leaf) c.declaration.behind ≡ true
