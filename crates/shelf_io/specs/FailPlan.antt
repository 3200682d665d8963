-- Calls that fail on demand.
use Rattle.std.specs.Prelude.{◌≡◌, ℕ, List, Contains}
use Rattle.shelf_io.specs.Outside.{counted}
use Rattle.shelf_io.specs.declared.memory.FailPlan.{FailPlan}

-- whether the next call is one that was listed
abbrev pub NextFails : FailPlan → Type 0
NextFails plan = Contains plan.fails.items (counted plan.calls)

-- a plan of these numbers, no call of which was made
pub record IsNewPlan (plan : FailPlan) (numbers : List ℕ) : Type 0 where
  pub fails : plan.fails.items ≡ numbers
  pub calls : plan.calls ≡ 0

-- the plan behind that call
abbrev pub plan_after : FailPlan → FailPlan
plan_after plan = record plan { calls = counted plan.calls }
