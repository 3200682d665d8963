-- Runs of a net: what the watched leaves have, cycle by cycle.
use Rattle.std.specs.Prelude.{ℕ, List, [], ◌∷◌, map}
use Rattle.bit_words.specs.declared.value.Value.{Value}
use Rattle.ground_net.specs.declared.net.Net.{Net}
use Rattle.ground_net.specs.Cycles.{NetState, Inputs, Valuation, Settled, instant_of, next}
use Rattle.fir_meaning.specs.States as tree
use Rattle.ground_net.specs.Nets.{AreInputs}
use Rattle.net_of_circuit.specs.FlatOrder.{Standing}
use Rattle.net_of_circuit.specs.NetOf.{MatchingInputs}

-- The rows of a run from a state under these inputs: each is that of a settled valuation, and the next cycle begins with the state after it.
pub data Run (net : Net) (watch : List ℕ) : NetState → List Inputs → List (List Value) → Type 0 where
  ended : {t : NetState} → Run net watch t [] []
  cycle : {t : NetState} {given : Inputs} {later : List Inputs} {rows : List (List Value)} (rho : Valuation) → Settled net t given rho
      → Run net watch (next net t (instant_of net t rho)) later rows → Run net watch t (given ∷ later) (map rho watch ∷ rows)

-- The inputs of the circuit are those of the net, cycle by cycle, and in range.
pub data AreGiven (all : List Standing) (net : Net) : List tree.Inputs → List Inputs → Type 0 where
  no_more : AreGiven all net [] []
  one_more : {given : tree.Inputs} {numbered : Inputs} {later : List tree.Inputs} {others : List Inputs} → MatchingInputs all net given numbered → AreInputs net numbered → AreGiven all net later others
      → AreGiven all net (given ∷ later) (numbered ∷ others)
