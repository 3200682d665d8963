-- What statements drive (FIRRTL specification 3.0, "Connects", "Invalidates", "Conditionals" and "Last Connect Semantics").
--
-- The statements of a block are taken in text order, and of a `when` only the first arm whose condition is 1, or else the
-- `else`. What they leave in a leaf is the last integer that one of them sets.
use Rattle.std.specs.Prelude.{ℕ, ◌==◌, ◌&&◌, ◌++◌, not, Bool, true, false, List, [], ◌∷◌, map, fold, filter, ℤ, Option, Some, None, if◌then◌else◌}
use Rattle.bit_words.specs.declared.value.Value.{Value}
use Rattle.bit_words.specs.Values.{integer_of}
use Rattle.fir_types.specs.declared.leaf.TypeLeaf.{TypeLeaf}
use Rattle.fir_types.specs.declared.leaf.PathStep.{PathStep}
use Rattle.fir_types.specs.declared.leaf.PathStep.TheVariants as step
use Rattle.fir_types.specs.Leaves.{leaves}
use Rattle.fir_tree.specs.declared.expr.Expr.{Expr}
use Rattle.fir_tree.specs.declared.stmt.Stmt.{Stmt, fold-Stmt}
use Rattle.fir_tree.specs.declared.stmt.Stmt.TheOpen.{Stmt-F, Arm-F}
use Rattle.fir_meaning.specs.Components.{Leaf}
use Rattle.fir_meaning.specs.Values.{Scene, Spot, value, spot_of, beside, lone, is_one, fitted_to}

-- Two leaves are the same where their components and all steps to them are.
abbrev pub same_step : PathStep → PathStep → Bool
same_step (step.Field m) (step.Field n) = m == n
same_step (step.Element m) (step.Element n) = m == n
same_step _ _ = false

abbrev pub same_way : List PathStep → List PathStep → Bool
same_way [] [] = true
same_way (a ∷ way) (b ∷ other) = same_step a b && same_way way other
same_way _ _ = false

abbrev pub same_leaf : Leaf → Leaf → Bool
same_leaf a b = (a.component == b.component) && same_way a.way b.way

-- A leaf that a statement sets, and the integer that it is set to.
pub record Setting : Type 0 where
  pub leaf : Leaf
  pub integer : ℤ

-- the leaf behind this way, set to the value beside it
abbrev pub setting : ℕ → List PathStep → TypeLeaf × Value → Setting
setting component way both =
    record { leaf = record { component = component; way = way ++ both.0.path }; integer = integer_of (fitted_to both.0 (integer_of both.1)) }

-- the leaf is flipped, or it isn't
abbrev pub is_turned : Bool → TypeLeaf → Bool
is_turned flip leaf = if flip then leaf.flip else not leaf.flip

-- the leaves that are flipped, or those that aren't
abbrev pub of_orientation : Bool → List (TypeLeaf × Value) → List (TypeLeaf × Value)
of_orientation flip = filter (λ both. is_turned flip both.0)

-- the leaves behind a way, where there is one
abbrev pub set_along : Bool → Spot → Option (List PathStep) → List Value → List Setting
set_along flip spot (Some way) values = map (setting spot.component way) (of_orientation flip (beside (lone []) (leaves spot.typ) values))
set_along flip spot None values = []

-- The leaves of one orientation at a spot are set, each to the value beside it, fitted to the leaf's own kind and width, and to 0
-- where there is none.
-- Nothing is set where an index is out of its vector, and nothing by an expression that is no reference.
abbrev pub set_at : Bool → Option Spot → List Value → List Setting
set_at flip (Some spot) values = set_along flip spot spot.way values
set_at flip None values = []

-- A connect sets the leaves of the left side that aren't flipped from the right, and those of the right side that are from
-- the left.
abbrev pub set_by_connect : Scene → Expr → Expr → List Setting
set_by_connect scene left right = set_at false (spot_of scene left) (value right scene) ++ set_at true (spot_of scene right) (value left scene)

-- An `invalidate` sets each leaf of its reference to 0, as no value stands beside it. Of what is set in a leaf that is only a source
-- nothing is ever asked.
abbrev pub set_by_invalidate : Scene → Expr → List Setting
set_by_invalidate scene target = set_at false (spot_of scene target) [] ++ set_at true (spot_of scene target) []

-- What the settings leave in a leaf that held the last integer before.
abbrev pub left_in : Leaf → Option ℤ → List Setting → Option ℤ
left_in leaf = fold (λ last s. if same_leaf s.leaf leaf then Some s.integer else last)

-- What a statement makes of the integer that was set before it.
abbrev pub Effect : Type 0
Effect = Option ℤ → Option ℤ

-- one after the other
abbrev pub in_turn : List Effect → Effect
in_turn [] last = last
in_turn (s ∷ later) last = in_turn later (s last)

-- the first arm whose condition holds, or else the others
abbrev pub first_holding : List (Bool × Effect) → Effect → Effect
first_holding [] other = other
first_holding (arm ∷ arms) other = if arm.0 then arm.1 else first_holding arms other

module _ (scene : Scene) (leaf : Leaf) where
  -- What each kind of statement makes of the integer that was set before it.
  abbrev pub of_stmt : Stmt-F Effect (Bool × Effect) → Effect
  of_stmt (Stmt-F.Connect left right) last = left_in leaf last (set_by_connect scene left right)
  of_stmt (Stmt-F.Invalidate target) last = left_in leaf last (set_by_invalidate scene target)
  of_stmt (Stmt-F.When arms other) last = first_holding arms (in_turn other) last
  of_stmt _ last = last

  -- an arm: whether its condition holds, and what its statements do
  abbrev pub of_arm : Arm-F Effect (Bool × Effect) → Bool × Effect
  of_arm a = (is_one (value a.condition scene), in_turn a.body)

  -- What a statement leaves in the leaf.
  abbrev pub effect : Stmt → Effect
  effect = fold-Stmt Effect (Bool × Effect) of_stmt of_arm

  -- What the statements of a block leave in the leaf: the last integer that they set, or none.
  abbrev pub drives : List Stmt → Option ℤ
  drives block = in_turn (map effect block) None
