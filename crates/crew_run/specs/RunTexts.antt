-- What a run writes.
use Rattle.std.specs.Prelude.{◌≡◌, ℕ, List}
use Rattle.bit_words.specs.declared.value.Value.{Value}
use Rattle.ground_net.specs.declared.net.Net.{Net}
use Rattle.ground_net.specs.Cycles.{NetState, Inputs}
use Rattle.net_laws.specs.Runs.{Run}
use Rattle.row_texts.specs.Tellings.{Telling, run_text}

-- The text of a run from this state under these inputs, whose first cycle has this number.
pub record IsRunText (net : Net) (watched : List ℕ) (s : NetState) (given : List Inputs) (t : Telling) (first : ℕ) (bytes : List ℕ) : Type 0 where
  pub rows : List (List Value)
  pub run : Run net watched s given rows
  pub is : bytes ≡ run_text t first rows
