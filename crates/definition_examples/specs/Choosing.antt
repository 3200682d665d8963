-- Expressions that choose, and statements under conditions (FIRRTL specification 3.0, "Multiplexers", "Sub-accesses", "Last Connect
-- Semantics" and "Conditionals").
use Rattle.std.specs.Prelude.{ℕ, List, [], ◌∷◌, Option, negsuc, slice_index}
use Rattle.bit_words.specs.declared.value.Value.{Value}
use Rattle.ground_net.specs.declared.ground.Ground.{Ground}
use Rattle.ground_net.specs.declared.ground.Ground.TheVariants as expression
use Rattle.ground_net.specs.declared.circuit.GroundStmt.{GroundStmt}
use Rattle.ground_net.specs.declared.circuit.GroundStmt.TheVariants as statement
use Rattle.ground_net.specs.declared.circuit.GroundArm.{GroundArm}
use Rattle.ground_net.specs.Grounds.{Instant, value}
use Rattle.ground_net.specs.Statements.{drives}
use Rattle.definition_examples.specs.Circuits.{uint}
use Rattle.definition_examples.specs.Writing.{sint}

-- the leaves from 0 on have these numbers, in two bits
abbrev pub seeing : List ℕ → Instant
seeing numbers = record { leaf = λ x. uint 2 (slice_index numbers x); load = λ m k address. uint 0 0 }

abbrev pub constant : ℕ → Ground
constant n = expression.Const (uint 8 n)

-- A choice of 10, 20, 30 and 40 by the leaves 0, 1 and 2.
abbrev pub choice : Ground
choice = expression.Mux
    (expression.Leaf 0 ∷ constant 10 ∷ expression.Leaf 1 ∷ constant 20 ∷ expression.Leaf 2 ∷ constant 30 ∷ constant 40 ∷ [])

abbrev pub chosen_by : ℕ → ℕ → ℕ → Value
chosen_by a b c = value choice (seeing (a ∷ b ∷ c ∷ []))

-- A selection among -1, -2 and -3 by the leaf 0.
abbrev pub selected_by : ℕ → Value
selected_by n = value (expression.Select (expression.Leaf 0 ∷ [])
    (expression.Const (sint (negsuc 0)) ∷ expression.Const (sint (negsuc 1)) ∷ expression.Const (sint (negsuc 2)) ∷ [])) (seeing (n ∷ []))

-- a selection among nothing
abbrev pub nothing_selected : Value
nothing_selected = value (expression.Select (expression.Leaf 0 ∷ []) []) (seeing (0 ∷ []))

-- a leaf is set to a constant, and the leaf 3 is
abbrev pub sets_leaf : ℕ → ℕ → GroundStmt
sets_leaf x n = statement.Connect x [] (constant n)

abbrev pub sets : ℕ → GroundStmt
sets n = sets_leaf 3 n

-- it is set to a constant where the leaves 0 and 1 are 1
abbrev pub sets_where : ℕ → GroundStmt
sets_where n = statement.Connect 3 (expression.Leaf 0 ∷ expression.Leaf 1 ∷ []) (constant n)

-- an arm with the condition that a leaf is 1
abbrev pub arm : ℕ → List GroundStmt → GroundArm
arm x body = record { condition = expression.Leaf x; body = body }

-- a `when` with two arms, by the leaves 0 and 1, and an `else`, behind so many leaves; each sets the leaf 3
abbrev pub two_arms : ℕ → GroundStmt
two_arms first = statement.When first (arm 0 (sets 10 ∷ []) ∷ arm 1 (sets 20 ∷ []) ∷ []) (sets 30 ∷ [])

-- a `when` of the leaf 0, behind so many leaves, that sets the leaf 3
abbrev pub lone_arm : ℕ → GroundStmt
lone_arm first = statement.When first (arm 0 (sets 10 ∷ []) ∷ []) []

-- a `when` of the leaf 1, behind four leaves, in a `when` of the leaf 0 that has three leaves before it: the leaf 3 stands between them
abbrev pub nested : GroundStmt
nested = statement.When 3 (arm 0 (statement.When 4 (arm 1 (sets 10 ∷ []) ∷ []) [] ∷ []) ∷ []) []

-- What statements leave in the leaf 3 where the leaves 0 and 1 have these numbers.
abbrev pub left_by : List GroundStmt → ℕ → ℕ → Option Value
left_by block a b = drives (seeing (a ∷ b ∷ [])) 3 block

-- the leaf 3 takes another leaf; it does in the arm of the leaf 0, behind so many leaves; and it does in the arms of the leaves 0 and 1
-- and in the `else`
abbrev pub takes : ℕ → GroundStmt
takes x = statement.Connect 3 [] (expression.Leaf x)

abbrev pub taking_arm : ℕ → GroundStmt
taking_arm first = statement.When first (arm 0 (takes 6 ∷ []) ∷ []) []

abbrev pub taking_arms : ℕ → GroundStmt
taking_arms first = statement.When first (arm 0 (takes 6 ∷ []) ∷ arm 1 (takes 7 ∷ []) ∷ []) (takes 8 ∷ [])
