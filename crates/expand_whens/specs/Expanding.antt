-- One driver for each leaf (FIRRTL specification 3.0, "Last Connect Semantics" and "Conditional Last Connect Semantics").
use Rattle.std.specs.Prelude.{◌≡◌, ℕ, true, List, [], length, unwrap_or, Option, Some, None, Contains, slice_get, ◌⊎◌}
use Rattle.std.specs.List.{list_all}
use Rattle.bit_words.specs.declared.value.Value.{Value}
use Rattle.ground_net.specs.declared.ground.Ground.{Ground}
use Rattle.ground_net.specs.declared.circuit.GroundLeaf.{GroundLeaf}
use Rattle.ground_net.specs.declared.circuit.GroundRole.TheVariants.{Register}
use Rattle.ground_net.specs.declared.circuit.GroundStmt.{GroundStmt}
use Rattle.ground_net.specs.declared.circuit.GroundModule.{GroundModule}
use Rattle.ground_net.specs.declared.circuit.GroundCircuit.{GroundCircuit}
use Rattle.ground_net.specs.declared.circuit.DrivenModule.{DrivenModule}
use Rattle.ground_net.specs.declared.circuit.DrivenCircuit.{DrivenCircuit}
use Rattle.ground_net.specs.Grounds.{Instant, value, mentions, joined}
use Rattle.ground_net.specs.Statements.{drives, live}
use Rattle.expand_whens.specs.declared.guard.Way.{Way}
use Rattle.ground_net.specs.Shapes.{Table, Shape, shaped, shape as shape_in}
use Rattle.ground_net.specs.StatementShapes.{is_shaped}
use Rattle.expand_whens.specs.Ways.{outcome, ways_mentions, way_fits}

-- The kind and the width of a leaf.
abbrev pub leaf_shape : GroundLeaf → Shape
leaf_shape leaf = shaped leaf.kind leaf.width

-- The driver of leaf x of a module has, whatever is seen, what the statements leave in the leaf; where they leave nothing a register
-- has its own value. It mentions what the leaf's live connects do, and a register may mention itself besides. It has the
-- leaf's kind and width, where the sources of the statements have those of the leaves that they set and conditions are UInts.
pub record IsDriver (leaf : GroundLeaf) (x : ℕ) (body : List GroundStmt) (driver : Ground) : Type 0 where
  pub has : (instant : Instant) (v : Value) → drives instant x body ≡ Some v → value driver instant ≡ v
  pub keeps : leaf.role ≡ Register → (instant : Instant) → drives instant x body ≡ None → value driver instant ≡ instant.leaf x
  pub reads : (y : ℕ) → Contains (mentions driver) y → Contains (joined (live x body)) y ⊎ ((leaf.role ≡ Register) × (y ≡ x))
  pub all : (y : ℕ) → Contains (joined (live x body)) y → Contains (mentions driver) y
  pub shape : (table : Table) → is_shaped table body ≡ true → table.leaf x ≡ Some (leaf_shape leaf) → shape_in driver table ≡ Some (leaf_shape leaf)

-- A leaf without a driver is never left anything, and its live connects mention nothing.
pub record IsUndriven (x : ℕ) (body : List GroundStmt) : Type 0 where
  pub never : (instant : Instant) → drives instant x body ≡ None
  pub all : (y : ℕ) → Contains (joined (live x body)) y → ⊥

abbrev pub Drives : GroundLeaf → ℕ → List GroundStmt → Option Ground → Type 0
Drives leaf x body (Some driver) = IsDriver leaf x body driver
Drives leaf x body None = IsUndriven x body

-- There is one driver, or none, for each leaf of a module.
pub record HasDrivers (leaves : List GroundLeaf) (body : List GroundStmt) (drivers : List (Option Ground)) : Type 0 where
  pub counted : length drivers ≡ length leaves
  pub each : (x : ℕ) (leaf : GroundLeaf) (driver : Option Ground) → slice_get leaves x ≡ Some leaf → slice_get drivers x ≡ Some driver → Drives leaf x body driver

-- A module with drivers in place of its statements, and all else as it was.
pub record IsExpandedModule (ground : GroundModule) (driven : DrivenModule) : Type 0 where
  pub ports : driven.ports ≡ ground.ports
  pub leaves : driven.leaves ≡ ground.leaves
  pub registers : driven.registers ≡ ground.registers
  pub memories : driven.memories ≡ ground.memories
  pub instances : driven.instances ≡ ground.instances
  pub drivers : HasDrivers ground.leaves ground.body driven.drivers

-- The same modules, each with drivers in place of its statements.
pub record IsExpanded (ground : GroundCircuit) (driven : DrivenCircuit) : Type 0 where
  pub main : driven.main ≡ ground.main
  pub counted : length driven.modules ≡ length ground.modules
  pub each : (k : ℕ) (before : GroundModule) (after : DrivenModule) → slice_get ground.modules k ≡ Some before → slice_get driven.modules k ≡ Some after → IsExpandedModule before after

-- What a leaf has where nothing is driven: a register has its own value.
pub record IsRest (leaf : GroundLeaf) (x : ℕ) (rest : Ground) : Type 0 where
  pub keeps : leaf.role ≡ Register → (instant : Instant) → value rest instant ≡ instant.leaf x
  pub reads : (y : ℕ) → Contains (mentions rest) y → (leaf.role ≡ Register) × (y ≡ x)
  pub shape : (table : Table) → table.leaf x ≡ Some (leaf_shape leaf) → shape_in rest table ≡ Some (leaf_shape leaf)

-- The driver has what the first way has whose guard holds, or else what the leaf has where nothing is driven, and mentions what
-- the ways do.
pub record IsChoice (leaf : GroundLeaf) (x : ℕ) (ways : List Way) (driver : Ground) : Type 0 where
  pub rest : Instant → Value
  pub has : (instant : Instant) → value driver instant ≡ unwrap_or (outcome instant ways None) (rest instant)
  pub keeps : leaf.role ≡ Register → (instant : Instant) → outcome instant ways None ≡ None → rest instant ≡ instant.leaf x
  pub reads : (y : ℕ) → Contains (mentions driver) y → Contains (ways_mentions ways) y ⊎ ((leaf.role ≡ Register) × (y ≡ x))
  pub all : (y : ℕ) → Contains (ways_mentions ways) y → Contains (mentions driver) y
  pub shape : (table : Table) → list_all (way_fits table x) ways ≡ true → table.leaf x ≡ Some (leaf_shape leaf) → shape_in driver table ≡ Some (leaf_shape leaf)

abbrev pub Chooses : GroundLeaf → ℕ → List Way → Option Ground → Type 0
Chooses leaf x ways (Some driver) = IsChoice leaf x ways driver
Chooses leaf x ways None = ways ≡ []
