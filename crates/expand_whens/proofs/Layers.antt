-- What the definitions give for each kind of statement.
use Rattle.std.proofs.Common.{◌≡◌, ℕ, List, [], ◌∷◌, ◌++◌, map, arith, ◌==◌, ◌&&◌, if◌then◌else◌, Some, Option, option_and_then, false}
use Rattle.std.specs.List.{list_all}
use Rattle.std.proofs.lemmas.Grind.{common_steps}
use Rattle.bit_words.specs.declared.value.Value.{Value}
use Rattle.prim_ops.specs.Values.{is_one}
use Rattle.ground_net.specs.declared.ground.Ground.{Ground, the_lemmas as ground_lemmas}
use Rattle.ground_net.specs.declared.ground.Ground.TheVariants.{Mux, Leaf, Const}
use Rattle.ground_net.specs.declared.circuit.GroundStmt.{GroundStmt, the_lemmas}
use Rattle.ground_net.specs.declared.circuit.GroundStmt.TheVariants.{Connect, When}
use Rattle.ground_net.specs.declared.circuit.GroundArm.{GroundArm}
use Rattle.ground_net.specs.Grounds.{Instant, value, mentions, joined}
use Rattle.ground_net.specs.Statements.{all_hold, effect, driving, live, is_certain}
use Rattle.ground_net.proofs.Layers.{maps}
use Rattle.ground_net.specs.Shapes.{Shape, Table, shape, shape_of_value, shape_of_choice, all_of}
use Rattle.ground_net.specs.StatementShapes.{is_condition, is_source, is_shaped_stmt, is_shaped_arm, is_shaped, are_shaped}
use Rattle.expand_whens.specs.Walking.{block_effect, arm_effect, arms_effect, driving_arm, arms_live, arms_certain}

pub effect-Connect : (instant : Instant) (leaf target : ℕ) (conditions : List Ground) (source : Ground) (last : Option Value)
    → effect instant leaf (Connect target conditions source) last ≡ if (target == leaf) && all_hold instant conditions then Some (value source instant) else last
effect-Connect instant leaf target conditions source last = grind (arith, common_steps, the_lemmas)

pub effect-When : (instant : Instant) (leaf first : ℕ) (arms : List GroundArm) (other : List GroundStmt) (last : Option Value)
    → effect instant leaf (When first arms other) last ≡ arms_effect instant leaf first arms other last
effect-When instant leaf first arms other last = grind (arith, common_steps, the_lemmas)

pub arm_effect-is : (instant : Instant) (leaf : ℕ) (arm : GroundArm) → arm_effect instant leaf arm ≡ (is_one (value arm.condition instant), block_effect instant leaf arm.body)
arm_effect-is instant leaf arm = grind (arith, common_steps, the_lemmas)

pub certain-When : (leaf first : ℕ) (arms : List GroundArm) (other : List GroundStmt) → (driving leaf (When first arms other)).certain ≡ arms_certain leaf arms other
certain-When leaf first arms other = grind (arith, common_steps, the_lemmas)

pub live-When : (leaf first : ℕ) (arms : List GroundArm) (other : List GroundStmt) → (driving leaf (When first arms other)).live ≡ arms_live leaf first arms other
live-When leaf first arms other = grind (arith, common_steps, the_lemmas)

pub live-Connect : (leaf target : ℕ) (conditions : List Ground) (source : Ground)
    → (driving leaf (Connect target conditions source)).live ≡ if target == leaf then (joined (map mentions conditions) ++ mentions source) ∷ [] else []
live-Connect leaf target conditions source = grind (arith, common_steps, the_lemmas)

pub certain-Connect : (leaf target : ℕ) (source : Ground) → (driving leaf (Connect target [] source)).certain ≡ (target == leaf)
certain-Connect leaf target source = grind (arith, common_steps, the_lemmas)

pub uncertain-Connect : (leaf target : ℕ) (condition : Ground) (conditions : List Ground) (source : Ground) → (driving leaf (Connect target (condition ∷ conditions) source)).certain ≡ false
uncertain-Connect leaf target condition conditions source = grind (arith, common_steps, the_lemmas)

pub driving_arm-condition : (leaf : ℕ) (arm : GroundArm) → (driving_arm leaf arm).condition ≡ mentions arm.condition
driving_arm-condition leaf arm = grind (arith, common_steps, the_lemmas)

pub driving_arm-certain : (leaf : ℕ) (arm : GroundArm) → (driving_arm leaf arm).certain ≡ is_certain leaf arm.body
driving_arm-certain leaf arm = grind (arith, common_steps, the_lemmas)

pub driving_arm-live : (leaf : ℕ) (arm : GroundArm) → (driving_arm leaf arm).live ≡ live leaf arm.body
driving_arm-live leaf arm = grind (arith, common_steps, the_lemmas)

-- the shapes of some expressions
abbrev pub shapes_of : List Ground → Table → List (Option Shape)
shapes_of items table = map (λ g. shape g table) items

pub shape-Mux : (items : List Ground) (table : Table) → shape (Mux items) table ≡ option_and_then shape_of_choice (all_of (shapes_of items table))
shape-Mux items table = grind (arith, common_steps, ground_lemmas, maps)

pub shape-Leaf : (x : ℕ) (table : Table) → shape (Leaf x) table ≡ table.leaf x
shape-Leaf x table = grind (arith, common_steps, ground_lemmas)

pub shape-Const : (v : Value) (table : Table) → shape (Const v) table ≡ Some (shape_of_value v)
shape-Const v table = grind (arith, common_steps, ground_lemmas)

pub shaped-Connect : (table : Table) (target : ℕ) (conditions : List Ground) (source : Ground)
    → is_shaped_stmt table (Connect target conditions source) ≡ (list_all (is_condition table) conditions && is_source table target source)
shaped-Connect table target conditions source = grind (arith, common_steps, the_lemmas)

pub shaped-When : (table : Table) (first : ℕ) (arms : List GroundArm) (other : List GroundStmt) → is_shaped_stmt table (When first arms other) ≡ (are_shaped table arms && is_shaped table other)
shaped-When table first arms other = grind (arith, common_steps, the_lemmas)

pub shaped_arm-is : (table : Table) (arm : GroundArm) → is_shaped_arm table arm ≡ (is_condition table arm.condition && is_shaped table arm.body)
shaped_arm-is table arm = grind (arith, common_steps, the_lemmas)
