-- The least widths that meet the rules (FIRRTL specification 3.0, "Width Inference").
use Rattle.std.specs.Prelude.{◌≡◌, ℕ, ◌<◌, ◌≤◌, List, length, get_or, All}
use Rattle.prim_ops.specs.declared.widths.Width.{Width}
use Rattle.prim_ops.specs.declared.widths.Width.TheVariants.{Bits, Over}
use Rattle.width_rules.specs.declared.rule.Rule.{Rule}
use Rattle.width_rules.specs.Formulas.{level, width_under, IsFormula}

-- a rule over this many variables
pub record IsRule (count : ℕ) (rule : Rule) : Type 0 where
  pub target : rule.target < count
  pub formula : IsFormula count rule.formula

abbrev pub AreRules : ℕ → List Rule → Type 0
AreRules count rules = All (IsRule count) rules

-- the width of a variable
abbrev pub level_at : List Width → ℕ → ℕ
level_at widths k = level (get_or widths k (Bits 0))

-- The variable of a rule is at least its formula.
abbrev pub MeetsOne : Rule → List Width → Type 0
MeetsOne rule widths = level (width_under rule.formula widths) ≤ level_at widths rule.target

abbrev pub Meets : List Rule → List Width → Type 0
Meets rules widths = All (λ rule. MeetsOne rule widths) rules

-- 0 to 128 bits, or Over
abbrev pub IsWidth : Width → Type 0
IsWidth (Bits n) = n ≤ 128
IsWidth Over = Unit {0}

-- as many widths as variables, each 0 to 128 bits or Over
pub record IsAssignment (count : ℕ) (widths : List Width) : Type 0 where
  pub counted : length widths ≡ count
  pub bounded : (k : ℕ) → IsWidth (get_or widths k (Bits 0))

-- place by place at or below
abbrev pub AtOrBelow : List Width → List Width → Type 0
AtOrBelow v w = (k : ℕ) → level_at v k ≤ level_at w k

-- The widths meet the rules, and are at or below all widths that meet them.
pub record IsLeast (rules : List Rule) (count : ℕ) (widths : List Width) : Type 0 where
  pub assignment : IsAssignment count widths
  pub meets : Meets rules widths
  pub least : (other : List Width) → IsAssignment count other → Meets rules other → AtOrBelow widths other
