-- What the items of a circuit print in a run, and where they stop it.
use Rattle.std.specs.Prelude.{◌≡◌, ◌≢◌, ℕ, ◌+◌, ◌-◌, ◌%◌, ◌==◌, Bool, true, false, List, [], ◌∷◌, ◌++◌, length, map, slice_get, codes, decimal, Option, Some, None, if◌then◌else◌}
use Rattle.bit_words.specs.declared.value.Value.{Value}
use Rattle.fir_tree.specs.declared.expr.Expr.{Expr}
use Rattle.fir_tree.specs.declared.stmt.Stmt.{Stmt, fold-Stmt}
use Rattle.fir_tree.specs.declared.stmt.Stmt.TheOpen.{Stmt-F, Arm-F}
use Rattle.fir_meaning.specs.Components.{Design, TypedModule, module_at}
use Rattle.fir_meaning.specs.Values.{Valuation, Scene, Spot, scene_of, spot_of, value, is_one}
use Rattle.fir_meaning.specs.States.{State, Inputs, Settled, next}
use Rattle.fir_tree.specs.declared.print.Piece.{Piece}
use Rattle.print_stop.specs.Printed.{printed, stopped_line, ended_line}

-- The last of these that a run of statements comes to.
abbrev pub Last : Type 0
Last = Option Expr → Option Expr

abbrev pub in_turn : List Last → Last
in_turn [] last = last
in_turn (s ∷ later) last = in_turn later (s last)

-- the first arm whose condition holds, or else the others
abbrev pub first_holding : List (Bool × Last) → Last → Last
first_holding [] other = other
first_holding (arm ∷ arms) other = if arm.0 then arm.1 else first_holding arms other

-- the reference leads to this component
abbrev pub leads_to : ℕ → Option Spot → Bool
leads_to wire (Some spot) = spot.component == wire
leads_to wire None = false

module _ (scene : Scene) (wire : ℕ) where
  abbrev pub of_stmt : Stmt-F Last (Bool × Last) → Last
  of_stmt (Stmt-F.Connect left right) last = if leads_to wire (spot_of scene left) then Some right else last
  of_stmt (Stmt-F.Invalidate target) last = if leads_to wire (spot_of scene target) then None else last
  of_stmt (Stmt-F.When arms other) last = first_holding arms (in_turn other) last
  of_stmt _ last = last

  abbrev pub of_arm : Arm-F Last (Bool × Last) → Bool × Last
  of_arm a = (is_one (value a.condition scene), in_turn a.body)

  -- What the last connect of the wire connects to it, of those that the run of the statements comes to.
  abbrev pub connected : List Stmt → Option Expr
  connected stmts = in_turn (map (fold-Stmt Last (Bool × Last) of_stmt of_arm) stmts) None

-- the lowest bit of a value of one leaf is 1
abbrev pub is_odd : List Value → Bool
is_odd [] = false
is_odd (v ∷ others) = v.bits % 2 == 1

-- The item of this wire is enabled: the run of its module's statements, behind the heads of all items, comes to the connect of its
-- own place, and the lowest bit of the condition is 1.
pub record Enabled (scene : Scene) (wire : ℕ) (behind : List Stmt) : Type 0 where
  pub condition : Expr
  pub reached : connected scene wire behind ≡ Some condition
  pub holds : is_odd (value condition scene) ≡ true

-- An item at an instance path: its wire, the statements of its module behind the heads, its code where it is a `stop`, what it prints,
-- and the nodes of its arguments.
pub record PathItem : Type 0 where
  pub path : List ℕ
  pub wire : ℕ
  pub behind : List Stmt
  pub stop : Option ℕ
  pub pieces : List Piece
  pub arguments : List Expr

abbrev pub scene_at : TypedModule → PathItem → Valuation → Scene
scene_at m item rho = scene_of m item.path rho

-- What a `printf` gives to a cycle: the text where it is enabled, and nothing where it isn't.
pub data Prints (design : Design) (rho : Valuation) (item : PathItem) : List ℕ → Type 0 where
  prints : (m : TypedModule) (values : List Value) → module_at design item.path ≡ Some m → item.stop ≡ None → Enabled (scene_at m item rho) item.wire item.behind
      → map (λ e. value e (scene_at m item rho)) item.arguments ≡ map (λ v. v ∷ []) values → Prints design rho item (printed item.pieces values)
  keeps_still : (m : TypedModule) → module_at design item.path ≡ Some m → ¬ (Enabled (scene_at m item rho) item.wire item.behind) → Prints design rho item []
  is_stop : (code : ℕ) → item.stop ≡ Some code → Prints design rho item []

-- the code of a `stop` that is enabled
pub record Stops (design : Design) (rho : Valuation) (item : PathItem) (code : ℕ) : Type 0 where
  pub m : TypedModule
  pub stands : module_at design item.path ≡ Some m
  pub stop : item.stop ≡ Some code
  pub enabled : Enabled (scene_at m item rho) item.wire item.behind

-- What all items print in a cycle, and the code of the first `stop` that is enabled.
pub data InCycle (design : Design) (rho : Valuation) : List PathItem → List ℕ → Option ℕ → Type 0 where
  no_item : InCycle design rho [] [] None
  a_stop : {item : PathItem} {items : List PathItem} {bytes : List ℕ} {code : ℕ} {later : Option ℕ} → Stops design rho item code → InCycle design rho items bytes later
      → InCycle design rho (item ∷ items) bytes (Some code)
  no_stop : {item : PathItem} {items : List PathItem} {first bytes : List ℕ} {later : Option ℕ} → ((code : ℕ) → ¬ (Stops design rho item code)) → Prints design rho item first
      → InCycle design rho items bytes later → InCycle design rho (item ∷ items) (first ++ bytes) later

-- The bytes that are printed from this cycle on, which begins in this state, and the last line.
pub data Logs (design : Design) (items : List PathItem) : ℕ → State → List Inputs → List ℕ → List ℕ → Type 0 where
  ends : {cycle : ℕ} {s : State} → Logs design items cycle s [] [] (ended_line cycle)
  stops : {cycle : ℕ} {s : State} {given : Inputs} {later : List Inputs} {bytes : List ℕ} {code : ℕ} (rho : Valuation) → Settled design s given rho
      → InCycle design rho items bytes (Some code) → Logs design items cycle s (given ∷ later) bytes (stopped_line cycle code)
  goes_on : {cycle : ℕ} {s : State} {given : Inputs} {later : List Inputs} {bytes others line : List ℕ} (rho : Valuation) → Settled design s given rho
      → InCycle design rho items bytes None → Logs design items (cycle + 1) (next design s rho) later others line
      → Logs design items cycle s (given ∷ later) (bytes ++ others) line

-- a line feed where the bytes don't end in one
abbrev pub with_feed : List ℕ → List ℕ
with_feed bytes = if length bytes == 0 then [] else (if last_or_feed bytes == 10 then bytes else bytes ++ 10 ∷ [])
  where
    last_or_feed : List ℕ → ℕ
    last_or_feed [] = 10
    last_or_feed (b ∷ []) = b
    last_or_feed (b ∷ c ∷ others) = last_or_feed (c ∷ others)
