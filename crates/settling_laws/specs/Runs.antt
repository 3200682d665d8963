-- Runs of a circuit: what the watched leaves have, cycle by cycle (FIRRTL specification 3.0, "Registers" and "Memories").
use Rattle.std.specs.Prelude.{List, [], ◌∷◌, map}
use Rattle.bit_words.specs.declared.value.Value.{Value}
use Rattle.fir_types.specs.declared.leaf.TypeLeaf.{TypeLeaf}
use Rattle.fir_meaning.specs.Components.{Design, FlatLeaf}
use Rattle.fir_meaning.specs.Values.{Valuation, fitted_to}
use Rattle.fir_meaning.specs.States.{State, Inputs, Settled, next}

-- A leaf of the run that is watched, with the leaf of its component's type, which has its kind and width.
pub record Watched : Type 0 where
  pub at : FlatLeaf
  pub leaf : TypeLeaf

-- Its value.
abbrev pub value_of : Valuation → Watched → Value
value_of rho w = fitted_to w.leaf (rho w.at.path w.at.component w.at.way)

abbrev pub row_of : List Watched → Valuation → List Value
row_of watched rho = map (value_of rho) watched

-- The rows of a run from a state under these inputs, cycle by cycle: each is that of a settled valuation, and the next cycle begins
-- with the state after it.
pub data Runs (design : Design) (watched : List Watched) : State → List Inputs → List (List Value) → Type 0 where
  ended : {s : State} → Runs design watched s [] []
  cycle : {s : State} {given : Inputs} {later : List Inputs} {rows : List (List Value)} (rho : Valuation) → Settled design s given rho
      → Runs design watched (next design s rho) later rows → Runs design watched s (given ∷ later) (row_of watched rho ∷ rows)
