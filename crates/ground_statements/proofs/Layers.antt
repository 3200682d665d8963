-- What the definitions give for each kind of statement.
use Rattle.std.proofs.Common.{◌≡◌, ℕ, ◌+◌, ◌&&◌, ◌||◌, Bool, true, false, List, [], ◌∷◌, ◌++◌, map, flat_map, Option, arith, if◌then◌else◌}
use Rattle.std.specs.Prelude.{nat_lt}
use Rattle.std.specs.List.{list_all, list_any}
use Rattle.std.proofs.lemmas.Grind.{common_steps}
use Rattle.place_text.specs.declared.place.Place.{Place}
use Rattle.bit_words.specs.declared.value.Value.{Value}
use Rattle.prim_ops.specs.Values.{is_one}
use Rattle.fir_types.specs.declared.name.Name.{Name}
use Rattle.fir_types.specs.declared.fir_type.FirType.{FirType}
use Rattle.fir_types.specs.declared.memory.Memory.{Memory}
use Rattle.fir_tree.specs.declared.expr.Expr.{Expr}
use Rattle.fir_tree.specs.declared.stmt.Stmt.{Stmt, the_lemmas as stmt_lemmas}
use Rattle.fir_tree.specs.declared.stmt.Stmt.TheVariants as stmt
use Rattle.fir_tree.specs.declared.stmt.Arm.{Arm, fold-Arm}
use Rattle.fir_meaning.specs.Components.{Leaf, A_wire, A_register, A_reset_register, A_memory, An_instance, A_node}
use Rattle.fir_meaning.specs.Values as tree
use Rattle.fir_meaning.specs.Values.{Scene}
use Rattle.fir_meaning.specs.Drives as tree_drives
use Rattle.fir_meaning.specs.Drives.{left_in, set_by_connect, set_by_invalidate}
use Rattle.fir_meaning.specs.Mentions as tree_reads
use Rattle.fir_meaning.specs.Mentions.{Scope, region_of}
use Rattle.fir_meaning.specs.Certain.{surely_names}
use Rattle.fir_meaning.specs.Loops as tree_loops
use Rattle.fir_meaning.specs.Loops.{driven_from}
use Rattle.fir_meaning.specs.WellTyped.{Known, is_typed, is_condition, both_match, named_type, is_typed_stmt, are_typed}
use Rattle.circuit_laws.specs.Open as open_text
use Rattle.circuit_laws.specs.Open.{Opened, OpenedArm, opened, effects, arm_effects}
use Rattle.circuit_laws.specs.OpenReads as open_reads
use Rattle.circuit_laws.specs.OpenReads.{OpenDriving, OpenDrivingArm, open_driving, drivings, arm_drivings}
use Rattle.ground_net.specs.declared.circuit.GroundStmt.{GroundStmt, the_lemmas}
use Rattle.ground_net.specs.declared.circuit.GroundStmt.TheVariants.{When}
use Rattle.ground_net.specs.declared.circuit.GroundArm.{GroundArm, fold-GroundArm}
use Rattle.ground_net.specs.Grounds.{Instant, value, mentions}
use Rattle.ground_net.specs.Statements.{Effect, Driving, DrivingArm, in_turn, first_holding, all_arms, effect, of_stmt, of_arm, driving, driving_of, driving_arm_of, live, is_certain, through_arms}
use Rattle.ground_net.specs.Shapes.{Table}
use Rattle.ground_net.specs.StatementShapes as passing
use Rattle.ground_net.specs.StatementShapes.{is_shaped, is_shaped_stmt, is_shaped_arm, are_shaped}
use Rattle.ground_statements.specs.Declares.{labels, arm_labels, all_labels, body_labels}
use Rattle.ground_statements.specs.Arms.{is_typed_arm, are_typed_arms}

-- Ground statements

abbrev pub block_effect : Instant → ℕ → List GroundStmt → Effect
block_effect instant x block = in_turn (map (effect instant x) block)

abbrev pub arm_effect : Instant → ℕ → GroundArm → Bool × Effect
arm_effect instant x = fold-GroundArm Effect (Bool × Effect) (of_stmt instant x) (of_arm instant x)

abbrev pub driving_arm : ℕ → GroundArm → DrivingArm
driving_arm x = fold-GroundArm Driving DrivingArm (driving_of x) (driving_arm_of x)

pub effect-When : (instant : Instant) (x first : ℕ) (arms : List GroundArm) (other : List GroundStmt) (last : Option Value)
    → effect instant x (When first arms other) last
    ≡ (if nat_lt x first then first_holding (map (arm_effect instant x) arms) (block_effect instant x other) last
    else all_arms (map (arm_effect instant x) arms) (block_effect instant x other) last)
effect-When instant x first arms other last = grind (arith, common_steps, the_lemmas)

pub arm_effect-is : (instant : Instant) (x : ℕ) (arm : GroundArm) → arm_effect instant x arm ≡ (is_one (value arm.condition instant), block_effect instant x arm.body)
arm_effect-is instant x arm = grind (arith, common_steps, the_lemmas)

pub certain-When : (x first : ℕ) (arms : List GroundArm) (other : List GroundStmt)
    → (driving x (When first arms other)).certain ≡ (list_all (λ arm. arm.certain) (map (driving_arm x) arms) && is_certain x other)
certain-When x first arms other = grind (arith, common_steps, the_lemmas)

pub live-When : (x first : ℕ) (arms : List GroundArm) (other : List GroundStmt)
    → (driving x (When first arms other)).live
    ≡ (if nat_lt x first then through_arms [] (map (driving_arm x) arms) (live x other) else flat_map (λ arm. arm.live) (map (driving_arm x) arms) ++ live x other)
live-When x first arms other = grind (arith, common_steps, the_lemmas)

pub driving_arm-is : (x : ℕ) (arm : GroundArm) → driving_arm x arm ≡ record { condition = mentions arm.condition; certain = is_certain x arm.body; live = live x arm.body }
driving_arm-is x arm = grind (arith, common_steps, the_lemmas)

pub shaped-When : (table : Table) (first : ℕ) (arms : List GroundArm) (other : List GroundStmt) → is_shaped_stmt table (When first arms other) ≡ (are_shaped table arms && is_shaped table other)
shaped-When table first arms other = grind (arith, common_steps, the_lemmas)

pub shaped_arm-is : (table : Table) (arm : GroundArm) → is_shaped_arm table arm ≡ (passing.is_condition table arm.condition && is_shaped table arm.body)
shaped_arm-is table arm = grind (arith, common_steps, the_lemmas)

-- What is declared

pub labels-Wire : (name : Name) (typ : FirType) → labels (stmt.Wire name typ) ≡ (name.id, A_wire) ∷ []
labels-Wire name typ = grind (arith, common_steps, stmt_lemmas)

pub labels-Reg : (name : Name) (typ : FirType) (clock : Expr) → labels (stmt.Reg name typ clock) ≡ (name.id, A_register clock) ∷ []
labels-Reg name typ clock = grind (arith, common_steps, stmt_lemmas)

pub labels-RegReset : (name : Name) (typ : FirType) (clock reset init : Expr) → labels (stmt.RegReset name typ clock reset init) ≡ (name.id, A_reset_register clock reset init) ∷ []
labels-RegReset name typ clock reset init = grind (arith, common_steps, stmt_lemmas)

pub labels-Mem : (memory : Memory) → labels (stmt.Mem memory) ≡ (memory.name.id, A_memory memory) ∷ []
labels-Mem memory = grind (arith, common_steps, stmt_lemmas)

pub labels-Inst : (name target : Name) → labels (stmt.Inst name target) ≡ (name.id, An_instance target.id) ∷ []
labels-Inst name target = grind (arith, common_steps, stmt_lemmas)

pub labels-Node : (name : Name) (e : Expr) → labels (stmt.Node name e) ≡ (name.id, A_node e) ∷ []
labels-Node name e = grind (arith, common_steps, stmt_lemmas)

pub labels-Connect : (left right : Expr) → labels (stmt.Connect left right) ≡ []
labels-Connect left right = grind (arith, common_steps, stmt_lemmas)

pub labels-Invalidate : (target : Expr) → labels (stmt.Invalidate target) ≡ []
labels-Invalidate target = grind (arith, common_steps, stmt_lemmas)

pub labels-Skip : (place : Place) → labels (stmt.Skip place) ≡ []
labels-Skip place = grind (arith, common_steps, stmt_lemmas)

pub labels-When : (arms : List Arm) (other : List Stmt) → labels (stmt.When arms other) ≡ all_labels (map arm_labels arms) ++ body_labels other
labels-When arms other = grind (arith, common_steps, stmt_lemmas)

pub arm_labels-is : (a : Arm) → arm_labels a ≡ body_labels a.body
arm_labels-is a = grind (arith, common_steps, stmt_lemmas)

-- What is typed

pub typed-Node : (known : Known) (name : Name) (e : Expr) → is_typed_stmt known (stmt.Node name e) ≡ is_typed known e
typed-Node known name e = grind (arith, common_steps, stmt_lemmas)

pub typed-Connect : (known : Known) (left right : Expr)
    → is_typed_stmt known (stmt.Connect left right) ≡ (is_typed known left && (is_typed known right && both_match (named_type known left) (named_type known right)))
typed-Connect known left right = grind (arith, common_steps, stmt_lemmas)

pub typed-Invalidate : (known : Known) (target : Expr) → is_typed_stmt known (stmt.Invalidate target) ≡ is_typed known target
typed-Invalidate known target = grind (arith, common_steps, stmt_lemmas)

pub typed-When : (known : Known) (arms : List Arm) (other : List Stmt) → is_typed_stmt known (stmt.When arms other) ≡ (are_typed_arms known arms && are_typed known other)
typed-When known arms other = grind (arith, common_steps, stmt_lemmas)

pub typed_arm-is : (known : Known) (a : Arm) → is_typed_arm known a ≡ (is_condition known a.condition && are_typed known a.body)
typed_arm-is known a = grind (arith, common_steps, stmt_lemmas)

-- What statements leave and read, where so many declarations stand before them

abbrev pub opened_arm : Scene → Leaf → ℕ → Arm → OpenedArm
opened_arm scene leaf number = fold-Arm Opened OpenedArm (open_text.of_stmt scene leaf number) (open_text.of_arm scene leaf number)

abbrev pub the_arm : Scope → Leaf → ℕ → Arm → OpenDrivingArm
the_arm types leaf number = fold-Arm OpenDriving OpenDrivingArm (open_reads.of_stmt types leaf number) (open_reads.of_arm types leaf number)

module _ (scene : Scene) (leaf : Leaf) (number : ℕ) where
  abbrev text : Stmt → Opened
  text = opened scene leaf number

  pub open-Wire : (name : Name) (typ : FirType) → text (stmt.Wire name typ) ≡ open_text.declaring
  open-Wire name typ = grind (arith, common_steps, stmt_lemmas)

  pub open-Reg : (name : Name) (typ : FirType) (clock : Expr) → text (stmt.Reg name typ clock) ≡ open_text.declaring
  open-Reg name typ clock = grind (arith, common_steps, stmt_lemmas)

  pub open-RegReset : (name : Name) (typ : FirType) (clock reset init : Expr) → text (stmt.RegReset name typ clock reset init) ≡ open_text.declaring
  open-RegReset name typ clock reset init = grind (arith, common_steps, stmt_lemmas)

  pub open-Mem : (memory : Memory) → text (stmt.Mem memory) ≡ open_text.declaring
  open-Mem memory = grind (arith, common_steps, stmt_lemmas)

  pub open-Inst : (name target : Name) → text (stmt.Inst name target) ≡ open_text.declaring
  open-Inst name target = grind (arith, common_steps, stmt_lemmas)

  pub open-Node : (name : Name) (e : Expr) → text (stmt.Node name e) ≡ open_text.declaring
  open-Node name e = grind (arith, common_steps, stmt_lemmas)

  pub open-Skip : (place : Place) → text (stmt.Skip place) ≡ record { count = 0; does = λ n last. last }
  open-Skip place = grind (arith, common_steps, stmt_lemmas)

  pub open-Connect : (left right : Expr) → text (stmt.Connect left right) ≡ record { count = 0; does = λ n last. left_in leaf last (set_by_connect scene left right) }
  open-Connect left right = grind (arith, common_steps, stmt_lemmas)

  pub open-Invalidate : (target : Expr) → text (stmt.Invalidate target) ≡ record { count = 0; does = λ n last. left_in leaf last (set_by_invalidate scene target) }
  open-Invalidate target = grind (arith, common_steps, stmt_lemmas)

  pub open-When : (arms : List Arm) (other : List Stmt) (n : ℕ)
      → (text (stmt.When arms other)).does n
      ≡ (if nat_lt number n then tree_drives.first_holding (arm_effects n (map (opened_arm scene leaf number) arms)) (tree_drives.in_turn (effects (n + open_text.arms_counted (map (opened_arm scene leaf number) arms)) (map text other)))
      else open_text.all_arms (arm_effects n (map (opened_arm scene leaf number) arms)) (tree_drives.in_turn (effects (n + open_text.arms_counted (map (opened_arm scene leaf number) arms)) (map text other))))
  open-When arms other n = grind (arith, common_steps, stmt_lemmas)

  pub open_arm-is : (a : Arm)
      → opened_arm scene leaf number a ≡ record { holds = tree.is_one (tree.value a.condition scene); count = open_text.counted (map text a.body); does = λ n. tree_drives.in_turn (effects n (map text a.body)) }
  open_arm-is a = grind (arith, common_steps, stmt_lemmas)

module _ (types : Scope) (leaf : Leaf) (number : ℕ) where
  abbrev reading : Stmt → OpenDriving
  reading = open_driving types leaf number

  pub reads-Wire : (name : Name) (typ : FirType) → reading (stmt.Wire name typ) ≡ open_reads.declaring
  reads-Wire name typ = grind (arith, common_steps, stmt_lemmas)

  pub reads-Reg : (name : Name) (typ : FirType) (clock : Expr) → reading (stmt.Reg name typ clock) ≡ open_reads.declaring
  reads-Reg name typ clock = grind (arith, common_steps, stmt_lemmas)

  pub reads-RegReset : (name : Name) (typ : FirType) (clock reset init : Expr) → reading (stmt.RegReset name typ clock reset init) ≡ open_reads.declaring
  reads-RegReset name typ clock reset init = grind (arith, common_steps, stmt_lemmas)

  pub reads-Mem : (memory : Memory) → reading (stmt.Mem memory) ≡ open_reads.declaring
  reads-Mem memory = grind (arith, common_steps, stmt_lemmas)

  pub reads-Inst : (name target : Name) → reading (stmt.Inst name target) ≡ open_reads.declaring
  reads-Inst name target = grind (arith, common_steps, stmt_lemmas)

  pub reads-Node : (name : Name) (e : Expr) → reading (stmt.Node name e) ≡ open_reads.declaring
  reads-Node name e = grind (arith, common_steps, stmt_lemmas)

  pub reads-Skip : (place : Place) → reading (stmt.Skip place) ≡ record { count = 0; certain = false; live = λ n. [] }
  reads-Skip place = grind (arith, common_steps, stmt_lemmas)

  pub reads-Connect : (left right : Expr) → reading (stmt.Connect left right) ≡ record {
    count = 0;
    certain = surely_names false (region_of types left) leaf || surely_names true (region_of types right) leaf;
    live = λ n. driven_from false leaf (tree_reads.mentions right types) (region_of types left) ++ driven_from true leaf (tree_reads.mentions left types) (region_of types right);
  }
  reads-Connect left right = grind (arith, common_steps, stmt_lemmas)

  pub reads-Invalidate : (target : Expr) → reading (stmt.Invalidate target) ≡ record {
    count = 0;
    certain = surely_names false (region_of types target) leaf || surely_names true (region_of types target) leaf;
    live = λ n. driven_from false leaf [] (region_of types target) ++ driven_from true leaf [] (region_of types target);
  }
  reads-Invalidate target = grind (arith, common_steps, stmt_lemmas)

  pub reads-When : (arms : List Arm) (other : List Stmt) → reading (stmt.When arms other) ≡ record {
    count = open_reads.arms_counted (map (the_arm types leaf number) arms) + open_reads.drivings_counted (map reading other);
    certain = list_all (λ arm. arm) (map (λ arm. arm.certain) (map (the_arm types leaf number) arms)) && list_any (λ s. s) (map (λ s. s.certain) (map reading other));
    live = λ n. if nat_lt number n then tree_loops.through_arms [] (arm_drivings n (map (the_arm types leaf number) arms)) (tree_loops.live_from (drivings (n + open_reads.arms_counted (map (the_arm types leaf number) arms)) (map reading other)))
        else open_reads.arms_live (arm_drivings n (map (the_arm types leaf number) arms)) ++ tree_loops.live_from (drivings (n + open_reads.arms_counted (map (the_arm types leaf number) arms)) (map reading other));
  }
  reads-When arms other = grind (arith, common_steps, stmt_lemmas)

  pub reads_arm-is : (a : Arm) → the_arm types leaf number a ≡ record {
    condition = tree_reads.joined (tree_reads.mentions a.condition types);
    count = open_reads.drivings_counted (map reading a.body);
    certain = list_any (λ s. s.certain) (map reading a.body);
    live = λ n. tree_loops.live_from (drivings n (map reading a.body));
  }
  reads_arm-is a = grind (arith, common_steps, stmt_lemmas)
