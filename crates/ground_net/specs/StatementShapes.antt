-- Statements whose sources and conditions have the kinds and widths that they need.
use Rattle.std.specs.Prelude.{ℕ, ◌&&◌, Bool, false, List, map, Option, Some, None}
use Rattle.std.specs.List.{list_all}
use Rattle.ground_net.specs.declared.ground.Ground.{Ground}
use Rattle.ground_net.specs.declared.circuit.GroundStmt.{GroundStmt, fold-GroundStmt}
use Rattle.ground_net.specs.declared.circuit.GroundStmt.TheOpen.{GroundStmt-F, GroundArm-F}
use Rattle.ground_net.specs.declared.circuit.GroundArm.{GroundArm, fold-GroundArm}
use Rattle.ground_net.specs.Shapes.{Shape, Table, shape, same_shape, is_unsigned}

abbrev pub some_unsigned : Option Shape → Bool
some_unsigned None = false
some_unsigned (Some s) = is_unsigned s

abbrev pub some_same : Option Shape → Option Shape → Bool
some_same (Some s) (Some t) = same_shape s t
some_same _ _ = false

module _ (table : Table) where
  -- a UInt
  abbrev pub is_condition : Ground → Bool
  is_condition g = some_unsigned (shape g table)

  -- it has the kind and the width of the leaf
  abbrev pub is_source : ℕ → Ground → Bool
  is_source leaf g = some_same (shape g table) (table.leaf leaf)

  abbrev pub stmt_passes : GroundStmt-F Bool Bool → Bool
  stmt_passes (GroundStmt-F.Connect target conditions source) = list_all is_condition conditions && is_source target source
  stmt_passes (GroundStmt-F.When first arms other) = list_all (λ b. b) arms && list_all (λ b. b) other

  abbrev pub arm_passes : GroundArm-F Bool Bool → Bool
  arm_passes arm = is_condition arm.condition && list_all (λ b. b) arm.body

  abbrev pub is_shaped_stmt : GroundStmt → Bool
  is_shaped_stmt = fold-GroundStmt Bool Bool stmt_passes arm_passes

  abbrev pub is_shaped_arm : GroundArm → Bool
  is_shaped_arm = fold-GroundArm Bool Bool stmt_passes arm_passes

  -- Each source has the kind and the width of the leaf that it sets, and each condition is a UInt.
  abbrev pub is_shaped : List GroundStmt → Bool
  is_shaped block = list_all (λ b. b) (map is_shaped_stmt block)

  abbrev pub are_shaped : List GroundArm → Bool
  are_shaped arms = list_all (λ b. b) (map is_shaped_arm arms)
