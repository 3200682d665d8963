-- Runs that are held between their cycles.
use Rattle.std.specs.Prelude.{◌≡◌, ℕ, ◌<◌, ◌≤◌, List, length, All, slice_get, Some}
use Rattle.bit_words.specs.declared.value.Value.{Value}
use Rattle.ground_net.specs.declared.net.Net.{Net}
use Rattle.ground_net.specs.declared.net.Ordered.{Ordered}
use Rattle.ground_net.specs.declared.net.CutPart.{CutPart}
use Rattle.ground_net.specs.Reads.{IsOrder}
use Rattle.ground_net.specs.Cycles.{NetState, Inputs}
use Rattle.ground_net.specs.Nets.{IsNet, IsWithin}
use Rattle.ground_net.specs.Words.{words_of, SaysItsWords}
use Rattle.partition_code.specs.FromNets.{MatchInputs}
use Rattle.cone_cutter.specs.Splits.{IsSplit}
use Rattle.partition_code.specs.Codes.{AreCodesOf}
use Rattle.crew_run.specs.declared.run.Run.{Run}

-- What a run is started with: a net whose assignments stand in an order and that says where the words of its memories stand, and
-- leaves of it that are watched.
pub record MayStart (ordered : Ordered) (watched : List ℕ) : Type 0 where
  pub net : IsNet ordered.net
  pub order : IsOrder ordered.net ordered.sequence
  pub said : SaysItsWords ordered.net
  pub leaves : All (λ x. x < length ordered.net.leaves) watched

-- The words of this state, whose integers are in the ranges of their leaves.
pub record AreWordsOf (net : Net) (t : NetState) (words : List ℕ) : Type 0 where
  pub within : IsWithin net t
  pub are : words ≡ words_of net t

-- The run of this net with these watched leaves, by the codes of these parts, in this state.
pub record IsRun (ordered : Ordered) (watched : List ℕ) (parts : List CutPart) (t : NetState) (run : Run) : Type 0 where
  pub of : run.ordered.now ≡ ordered
  pub net : IsNet ordered.net
  pub order : IsOrder ordered.net ordered.sequence
  pub split : IsSplit ordered watched parts
  pub some : 1 ≤ length parts
  pub few : length parts ≤ 64
  pub codes_of : AreCodesOf ordered.net watched parts run.codes
  pub at : AreWordsOf ordered.net t run.words

-- The rows are what the inputs are given, cycle by cycle.
pub record MatchGiven (net : Net) (given : ℕ → Inputs) (rows : List (List Value)) : Type 0 where
  pub each : (c : ℕ) (row : List Value) → slice_get rows c ≡ Some row → MatchInputs net row (given c)
