-- The parts of literals and operations.
use Rattle.std.specs.Prelude.{◌≡◌, ℕ, List, [], ◌∷◌, ◌++◌}
use Rattle.fir_layout.specs.declared.laid.Laid.{Laid}
use Rattle.fir_grammar.specs.Grammar.{A, Numbers}
use Rattle.fir_expr.specs.Parts.{HasPassed}

-- So many numbers are read from i to j, and stand behind those that the list had.
pub record AddsNumbers (text : List ℕ) (list : List Laid) (i count : ℕ) (old new : List ℕ) (j : ℕ) : Type 0 where
  pub numbers : List ℕ
  pub added : new ≡ old ++ numbers
  pub read : (major : ℕ) (names : List (List ℕ)) → HasPassed major (A (Numbers count) ∷ []) text list i names (numbers, tt) j names
