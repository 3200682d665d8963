-- The variables that have a rule.
use Rattle.std.specs.Prelude.{◌≡◌, ℕ, nat_eq, Bool, false, List, get_or}
use Rattle.std.specs.List.{list_any}
use Rattle.width_rules.specs.declared.rule.Rule.{Rule}

-- for each variable whether a rule has it as its target; behind the last of them there is none
pub record Marks (rules : List Rule) (marks : List Bool) : Type 0 where
  pub mark : (x : ℕ) → get_or marks x false ≡ list_any (λ rule. nat_eq rule.target x) rules
