-- What a walk through statements, from the last one back, adds to the ways of each leaf.
use Rattle.std.specs.Prelude.{◌≡◌, ℕ, nat_lt, ◌==◌, ◌&&◌, not, Bool, true, false, List, [], ◌∷◌, ◌++◌, map, flat_map, length, Option, Some, None, if◌then◌else◌, slice_get, unwrap_or, option_map}
use Rattle.std.specs.List.{list_any, list_all}
use Rattle.std.specs.Global.{Vec}
use Rattle.bit_words.specs.declared.value.Value.{Value}
use Rattle.ground_net.specs.declared.ground.Ground.{Ground}
use Rattle.ground_net.specs.declared.circuit.GroundStmt.{GroundStmt}
use Rattle.ground_net.specs.declared.circuit.GroundArm.{GroundArm, fold-GroundArm}
use Rattle.ground_net.specs.Grounds.{Instant, joined}
use Rattle.ground_net.specs.Statements.{Effect, in_turn, first_holding, all_arms, effect, of_stmt, of_arm, Driving, DrivingArm, driving_of, driving_arm_of, crossing, through_arms, live, is_certain}
use Rattle.expand_whens.specs.declared.guard.Asked.{Asked}
use Rattle.expand_whens.specs.declared.guard.Way.{Way}
use Rattle.ground_net.specs.Shapes.{Table}
use Rattle.ground_net.specs.StatementShapes.{is_shaped, are_shaped}
use Rattle.expand_whens.specs.Ways.{asked_fits, way_fits, Same, crossed, crossed_mentions, outcome, ways_mentions}

-- what statements make of the value that was set before them
abbrev pub block_effect : Instant → ℕ → List GroundStmt → Effect
block_effect instant leaf block = in_turn (map (effect instant leaf) block)

abbrev pub arm_effect : Instant → ℕ → GroundArm → Bool × Effect
arm_effect instant leaf = fold-GroundArm Effect (Bool × Effect) (of_stmt instant leaf) (of_arm instant leaf)

-- what arms and the others do, where so many leaves are declared before them
abbrev pub arms_effect : Instant → ℕ → ℕ → List GroundArm → List GroundStmt → Effect
arms_effect instant leaf first arms other last =
    if nat_lt leaf first then first_holding (map (arm_effect instant leaf) arms) (block_effect instant leaf other) last
    else all_arms (map (arm_effect instant leaf) arms) (block_effect instant leaf other) last

abbrev pub driving_arm : ℕ → GroundArm → DrivingArm
driving_arm leaf = fold-GroundArm Driving DrivingArm (driving_of leaf) (driving_arm_of leaf)

abbrev pub arms_live : ℕ → ℕ → List GroundArm → List GroundStmt → List (List ℕ)
arms_live leaf first arms other =
    if nat_lt leaf first then through_arms [] (map (driving_arm leaf) arms) (live leaf other)
    else flat_map (λ arm. arm.live) (map (driving_arm leaf) arms) ++ live leaf other

abbrev pub arms_certain : ℕ → List GroundArm → List GroundStmt → Bool
arms_certain leaf arms other = list_all (λ arm. arm.certain) (map (driving_arm leaf) arms) && is_certain leaf other

-- The ways after the walk are those before it and the connects of statements with this effect and these live connects, which
-- stand under the conditions that are asked.
pub record Made (leaf : ℕ) (asked : List Asked) (does : Instant → Effect) (lives : List (List ℕ)) (old new : List Way) : Type 0 where
  pub leaves : (instant : Instant) (last : Option Value) → outcome instant new last ≡ outcome instant old (if crossed instant leaf asked then does instant last else last)
  pub reads : Same (ways_mentions new) (ways_mentions old ++ joined (crossing (crossed_mentions leaf asked) lives))

-- whether a list has a leaf
abbrev pub has : List ℕ → ℕ → Bool
has leaves leaf = list_any (λ x. x == leaf) leaves

-- there is no condition
abbrev pub is_alone : List Ground → Bool
is_alone [] = true
is_alone (c ∷ cs) = false

-- a leaf counts as covered where it is none of the module's
abbrev pub is_covered : List Bool → ℕ → Bool
is_covered covered leaf = unwrap_or (slice_get covered leaf) true

-- the leaf is one of the module's and is marked
abbrev pub is_marked : List Bool → ℕ → Bool
is_marked covered leaf = unwrap_or (slice_get covered leaf) false

abbrev pub items_of : {X : Type 0} → Option (Vec X) → List X
items_of None = []
items_of (Some v) = v.items

abbrev pub ways_at : List (Vec Way) → ℕ → List Way
ways_at ways leaf = items_of (slice_get ways leaf)

-- What is known of a walk through statements: of each leaf that isn't covered its ways have grown by them, and the leaves are listed
-- for which they are certain; the ways of the others stay.
pub record Walks (asked : List Asked) (does : Instant → ℕ → Effect) (lives : ℕ → List (List ℕ)) (surely : ℕ → Bool)
    (covered : List Bool) (old new : List (Vec Way)) (newly : List ℕ) : Type 0 where
  pub counted : length new ≡ length old
  pub made : (leaf : ℕ) → is_covered covered leaf ≡ false → Made leaf asked (λ instant. does instant leaf) (lives leaf) (ways_at old leaf) (ways_at new leaf)
  pub stays : (leaf : ℕ) → is_covered covered leaf ≡ true → ways_at new leaf ≡ ways_at old leaf
  pub listed : (leaf : ℕ) → has newly leaf ≡ (not (is_covered covered leaf) && surely leaf)
  -- what was before doesn't matter where they are certain
  pub settles : (leaf : ℕ) → has newly leaf ≡ true → (instant : Instant) (last other : Option Value) → does instant leaf last ≡ does instant leaf other

abbrev pub BlockWalks : List Asked → List GroundStmt → List Bool → List (Vec Way) → List (Vec Way) → List ℕ → Type 0
BlockWalks asked block covered old new newly =
    Walks asked (λ instant leaf. block_effect instant leaf block) (λ leaf. live leaf block) (λ leaf. is_certain leaf block) covered old new newly

abbrev pub ArmsWalk : List Asked → ℕ → List GroundArm → List GroundStmt → List Bool → List (Vec Way) → List (Vec Way) → List ℕ → Type 0
ArmsWalk asked first arms other covered old new newly =
    Walks asked (λ instant leaf. arms_effect instant leaf first arms other) (λ leaf. arms_live leaf first arms other) (λ leaf. arms_certain leaf arms other) covered old new newly

-- The ways after a walk through statements that are shaped are shaped, where those before it are and what is asked are UInts.
pub record Shapes (asked : List Asked) (passes : Table → Bool) (old new : List (Vec Way)) : Type 0 where
  pub each : (table : Table) → list_all (asked_fits table) asked ≡ true → passes table ≡ true → (leaf : ℕ) → list_all (way_fits table leaf) (ways_at old leaf) ≡ true
      → list_all (way_fits table leaf) (ways_at new leaf) ≡ true

abbrev pub BlockShapes : List Asked → List GroundStmt → List (Vec Way) → List (Vec Way) → Type 0
BlockShapes asked block = Shapes asked (λ table. is_shaped table block)

abbrev pub ArmsShapes : List Asked → List GroundArm → List (Vec Way) → List (Vec Way) → Type 0
ArmsShapes asked arms = Shapes asked (λ table. are_shaped table arms)

-- The leaves of a list are marked, and the others are as they were.
pub record Marks (leaves : List ℕ) (to : Bool) (old new : List Bool) : Type 0 where
  pub counted : length new ≡ length old
  pub each : (leaf : ℕ) → slice_get new leaf ≡ (if has leaves leaf then option_map (λ one. to) (slice_get old leaf) else slice_get old leaf)
