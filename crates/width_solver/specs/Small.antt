-- Small rules over more variables: no formula of theirs has an operation inside another one.
use Rattle.std.specs.Prelude.{◌≡◌, ℕ, ◌<◌, ◌≤◌, List, [], ◌∷◌, ◌++◌, length, get_or, map, All}
use Rattle.prim_ops.specs.declared.widths.Width.{Width}
use Rattle.prim_ops.specs.declared.widths.Width.TheVariants.{Bits}
use Rattle.width_rules.specs.declared.rule.Formula.{Formula}
use Rattle.width_rules.specs.declared.rule.Rule.{Rule}
use Rattle.width_rules.specs.Formulas.{level, width_under, IsFormula}
use Rattle.width_rules.specs.Solutions.{IsWidth, IsAssignment, AreRules, Meets}

-- widths that are one by one at or below others, which are 0 to 128 bits or Over
abbrev pub Below : List Width → List Width → Type 0
Below [] ws = ws ≡ []
Below (v ∷ vs) [] = ⊥
Below (v ∷ vs) (w ∷ ws) = IsWidth w × (level v ≤ level w) × Below vs ws

-- An assignment goes on to this many variables, and meets rules over them.
pub record GoesOn (count : ℕ) (rules : List Rule) (widths : List Width) : Type 0 where
  pub longer : List Width
  pub same : (k : ℕ) → k < length widths → get_or longer k (Bits 0) ≡ get_or widths k (Bits 0)
  pub assignment : IsAssignment count longer
  pub meets : Meets rules longer

-- Small rules over more variables ask the same of the first ones: what meets them meets the rules, and what meets the rules goes on
-- to more variables and meets the small ones.
pub record AskTheSame (count : ℕ) (rules : List Rule) (more : ℕ) (small : List Rule) : Type 0 where
  pub grows : count ≤ more
  pub are : AreRules more small
  pub sound : (widths : List Width) → ((k : ℕ) → IsWidth (get_or widths k (Bits 0))) → Meets small widths → Meets rules widths
  pub complete : (widths : List Width) → IsAssignment count widths → Meets rules widths → GoesOn more small widths

-- Rules and variables were added, with formulas that stand for others: where the rules are met, each is at least the other one;
-- and an assignment goes on so that they are the same.
pub record Replaces (parts : List Formula) (count : ℕ) (rules : List Rule) (count' : ℕ) (rules' : List Rule) (leaves : List Formula) : Type 0 where
  pub added : List Rule
  pub onward : rules' ≡ rules ++ added
  pub grows : count ≤ count'
  pub are : AreRules count' added
  pub counted : length leaves ≡ length parts
  pub formulas : All (IsFormula count') leaves
  pub sound : (widths : List Width) → ((k : ℕ) → IsWidth (get_or widths k (Bits 0))) → Meets added widths
      → Below (map (λ f. width_under f widths) parts) (map (λ f. width_under f widths) leaves)
  pub complete : (widths : List Width) → IsAssignment count widths
      → (onward : GoesOn count' added widths) × (map (λ f. width_under f onward.longer) leaves ≡ map (λ f. width_under f widths) parts)
