-- What ground statements leave in a leaf, and what the leaf reads (FIRRTL specification 3.0, "Connects", "Conditionals", "Last Connect
-- Semantics" and "Combinational Loops").
--
-- The leaves of a module are numbered in the order of their declarations. So a leaf stands in a `when`, and not around it, where
-- its number isn't below the number of leaves that are declared before the `when`. Conditions around a leaf's own declaration
-- aren't asked.
use Rattle.std.specs.Prelude.{ℕ, nat_lt, ◌==◌, ◌&&◌, Bool, false, List, [], ◌∷◌, ◌++◌, map, flat_map, Option, Some, None, if◌then◌else◌}
use Rattle.std.specs.List.{list_any, list_all}
use Rattle.bit_words.specs.declared.value.Value.{Value}
use Rattle.ground_net.specs.declared.ground.Ground.{Ground}
use Rattle.ground_net.specs.declared.circuit.GroundStmt.{GroundStmt, fold-GroundStmt}
use Rattle.ground_net.specs.declared.circuit.GroundStmt.TheOpen.{GroundStmt-F, GroundArm-F}
use Rattle.prim_ops.specs.Values.{is_one}
use Rattle.ground_net.specs.Grounds.{Instant, value, mentions, joined}

-- What a statement makes of the value that was set before it.
abbrev pub Effect : Type 0
Effect = Option Value → Option Value

-- one after the other
abbrev pub in_turn : List Effect → Effect
in_turn [] last = last
in_turn (s ∷ later) last = in_turn later (s last)

-- the first arm whose condition holds, or else the others
abbrev pub first_holding : List (Bool × Effect) → Effect → Effect
first_holding [] other = other
first_holding (arm ∷ arms) other = if arm.0 then arm.1 else first_holding arms other

-- all arms, whatever their conditions are, and then the others
abbrev pub all_arms : List (Bool × Effect) → Effect → Effect
all_arms arms other last = other (in_turn (map (λ arm. arm.1) arms) last)

-- all of the conditions hold
abbrev pub all_hold : Instant → List Ground → Bool
all_hold instant = list_all (λ g. is_one (value g instant))

module _ (instant : Instant) (leaf : ℕ) where
  abbrev pub of_stmt : GroundStmt-F Effect (Bool × Effect) → Effect
  of_stmt (GroundStmt-F.Connect target conditions source) last =
      if (target == leaf) && all_hold instant conditions then Some (value source instant) else last
  of_stmt (GroundStmt-F.When first arms other) last =
      if nat_lt leaf first then first_holding arms (in_turn other) last else all_arms arms (in_turn other) last

  abbrev pub of_arm : GroundArm-F Effect (Bool × Effect) → Bool × Effect
  of_arm a = (is_one (value a.condition instant), in_turn a.body)

  -- What a statement leaves in the leaf.
  abbrev pub effect : GroundStmt → Effect
  effect = fold-GroundStmt Effect (Bool × Effect) of_stmt of_arm

  -- What statements leave in the leaf: the last value that they set, or none.
  abbrev pub drives : List GroundStmt → Option Value
  drives block = in_turn (map effect block) None

-- What a statement is to a leaf: whether it is certain for it, and what its live connects mention.
pub record Driving : Type 0 where
  pub certain : Bool
  pub live : List (List ℕ)

-- An arm, with what its condition mentions.
pub record DrivingArm : Type 0 where
  pub condition : List ℕ
  pub certain : Bool
  pub live : List (List ℕ)

-- What later statements cover counts for nothing.
abbrev pub live_from : List Driving → List (List ℕ)
live_from [] = []
live_from (s ∷ later) = (if list_any (λ t. t.certain) later then [] else s.live) ++ live_from later

-- the conditions that are crossed
abbrev pub crossing : List ℕ → List (List ℕ) → List (List ℕ)
crossing conditions = map (λ leaves. conditions ++ leaves)

-- the live connects of all arms, behind these conditions, and then those of the `else`
abbrev pub through_arms : List ℕ → List DrivingArm → List (List ℕ) → List (List ℕ)
through_arms conditions [] other = crossing conditions other
through_arms conditions (arm ∷ arms) other =
    crossing (conditions ++ arm.condition) arm.live ++ through_arms (conditions ++ arm.condition) arms other

module _ (leaf : ℕ) where
  abbrev pub certain_in : GroundStmt-F Driving DrivingArm → Bool
  certain_in (GroundStmt-F.Connect target [] source) = target == leaf
  certain_in (GroundStmt-F.Connect target conditions source) = false
  certain_in (GroundStmt-F.When first arms other) = list_all (λ arm. arm.certain) arms && list_any (λ s. s.certain) other

  abbrev pub live_in : GroundStmt-F Driving DrivingArm → List (List ℕ)
  live_in (GroundStmt-F.Connect target conditions source) =
      if target == leaf then (joined (map mentions conditions) ++ mentions source) ∷ [] else []
  live_in (GroundStmt-F.When first arms other) =
      if nat_lt leaf first then through_arms [] arms (live_from other) else flat_map (λ arm. arm.live) arms ++ live_from other

  abbrev pub driving_of : GroundStmt-F Driving DrivingArm → Driving
  driving_of s = record { certain = certain_in s; live = live_in s }

  abbrev pub driving_arm_of : GroundArm-F Driving DrivingArm → DrivingArm
  driving_arm_of a = record { condition = mentions a.condition; certain = list_any (λ s. s.certain) a.body; live = live_from a.body }

  -- What a statement is to the leaf.
  abbrev pub driving : GroundStmt → Driving
  driving = fold-GroundStmt Driving DrivingArm driving_of driving_arm_of

  -- A list of statements is certain for the leaf where one of them is.
  abbrev pub is_certain : List GroundStmt → Bool
  is_certain block = list_any (λ s. s.certain) (map driving block)

  -- The live connects of the leaf in a block.
  abbrev pub live : List GroundStmt → List (List ℕ)
  live block = live_from (map driving block)
