-- How the widths rise, rule by rule.
use Rattle.std.specs.Prelude.{◌≡◌, ◌⊎◌, ℕ, ◌<◌, ◌≤◌, List, [], length, get_or, set, slice_get, Some, Contains, All, Bool, true, false, sum_by}
use Rattle.prim_ops.specs.declared.widths.Width.{Width}
use Rattle.width_rules.specs.declared.rule.Rule.{Rule}
use Rattle.width_rules.specs.Formulas.{level, width_under}
use Rattle.width_rules.specs.Solutions.{level_at, IsAssignment, MeetsOne, Meets, AtOrBelow}

abbrev pub total : List Width → ℕ
total widths = sum_by level widths

-- One rule raises its variable, where it asks more.
pub record Raises (rule : Rule) (old new : List Width) (raised : Bool) : Type 0 where
  pub less : raised ≡ true → level_at old rule.target < level (width_under rule.formula old)
  pub value : raised ≡ true → new ≡ set old rule.target (width_under rule.formula old)
  pub same : raised ≡ false → new ≡ old
  pub met : raised ≡ false → MeetsOne rule old

-- a rule that waits to be looked at
abbrev pub Waits : List Bool → ℕ → Type 0
Waits waits k = get_or waits k false ≡ true

-- These rules wait, and those that didn't were put at the end of the next ones.
pub record Wakes (numbers : List ℕ) (waits : List Bool) (next : List ℕ) (waits' : List Bool) (next' : List ℕ) : Type 0 where
  pub counted : length waits' ≡ length waits
  pub woken : (k : ℕ) → Contains numbers k → Waits waits' k
  pub kept : (k : ℕ) → Waits waits k → Waits waits' k
  pub more : (k : ℕ) → Contains next k → Contains next' k
  pub listed : (k : ℕ) → Waits waits' k → Waits waits k ⊎ Contains next' k
  pub within : (n : ℕ) → All (λ k. k < n) numbers → All (λ k. k < n) next → All (λ k. k < n) next'

-- A rule that isn't met waits, and stands among those that are left. What meets all rules is at or above the widths.
pub record Stands (rules : List Rule) (count : ℕ) (left : List ℕ) (widths : List Width) (waits : List Bool) : Type 0 where
  pub assignment : IsAssignment count widths
  pub counted : length waits ≡ length rules
  pub within : All (λ k. k < length rules) left
  pub met : (k : ℕ) (rule : Rule) → slice_get rules k ≡ Some rule → MeetsOne rule widths ⊎ Waits waits k
  pub listed : (k : ℕ) → Waits waits k → Contains left k
  pub least : (other : List Width) → IsAssignment count other → Meets rules other → AtOrBelow widths other

-- Rules were looked at, and others are next only where a width rose.
pub record Rises (old new : List Width) (next : List ℕ) : Type 0 where
  pub grows : total old ≤ total new
  pub more : (next ≡ []) ⊎ (total old < total new)
