-- The variables of formulas, and the rules that read them.
use Rattle.std.specs.Prelude.{◌≡◌, ◌⊎◌, ℕ, ◌<◌, List, [], ◌∷◌, length, get_or, slice_get, Some, Contains}
use Rattle.std.specs.List.{flat_map}
use Rattle.width_rules.specs.declared.rule.Formula.{Formula, fold-Formula}
use Rattle.width_rules.specs.declared.rule.Formula.TheOpen.{Formula-F}
use Rattle.width_rules.specs.declared.rule.Rule.{Rule}

abbrev pub of_layer : Formula-F (List ℕ) → List ℕ
of_layer (Formula-F.Fixed n) = []
of_layer (Formula-F.Var x) = x ∷ []
of_layer (Formula-F.Op prim kinds parts params) = flat_map (λ variables. variables) parts
of_layer (Formula-F.Greatest parts) = flat_map (λ variables. variables) parts

-- the variables of a formula
abbrev pub variables : Formula → List ℕ
variables = fold-Formula (List ℕ) of_layer

-- the readers of a variable
abbrev pub readers_at : List (List ℕ) → ℕ → List ℕ
readers_at readers x = get_or readers x []

-- For each variable the numbers of rules, among them those below n that read it.
pub record AreReaders (rules : List Rule) (count n : ℕ) (readers : List (List ℕ)) : Type 0 where
  pub counted : length readers ≡ count
  pub within : (x k : ℕ) → Contains (readers_at readers x) k → k < length rules
  pub noted : (k : ℕ) (rule : Rule) → k < n → slice_get rules k ≡ Some rule → (x : ℕ) → Contains (variables rule.formula) x → Contains (readers_at readers x) k

-- A rule's number is noted with the variables that it reads, and nothing else.
pub record Notes (read : List ℕ) (number : ℕ) (old new : List (List ℕ)) : Type 0 where
  pub counted : length new ≡ length old
  pub noted : (x : ℕ) → Contains read x → Contains (readers_at new x) number
  pub kept : (x k : ℕ) → Contains (readers_at old x) k → Contains (readers_at new x) k
  pub only : (x k : ℕ) → Contains (readers_at new x) k → Contains (readers_at old x) k ⊎ (k ≡ number)
