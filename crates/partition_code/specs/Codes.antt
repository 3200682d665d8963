-- The codes of the partitions of a net: what a code leaves to the next cycle, what it puts out, and which words it owns.
use Rattle.std.specs.Prelude.{◌≡◌, ◌↔◌, ℕ, suc, ◌+◌, ◌^◌, ◌<◌, ◌≤◌, ◌&&◌, ◌||◌, nat_le, nat_lt, Bool, false, IsTrue, List, [], ◌∷◌, map, filter, filter_map, length, slice_get, slice_index, Some, Contains, if◌then◌else◌}
use Rattle.std.specs.List.{range_with_len}
use Rattle.bit_words.specs.declared.value.Value.{Value}
use Rattle.ground_net.specs.declared.net.Net.{Net}
use Rattle.ground_net.specs.declared.net.Ordered.{Ordered}
use Rattle.ground_net.specs.declared.net.CutPart.{CutPart}
use Rattle.ground_net.specs.Cones.{Sink, sinks}
use Rattle.ground_net.specs.Reads.{IsOrder}
use Rattle.ground_net.specs.Cycles.{Inputs, Valuation, Settled, instant_of}
use Rattle.ground_net.specs.Nets.{IsNet, register_shapes}
use Rattle.ground_net.specs.Words.{count_words, state_words, state_of}
use Rattle.flat_code.specs.declared.code.Code.{Code}
use Rattle.flat_code.specs.declared.code.Span.{Span}
use Rattle.flat_code.specs.Meaning.{changed}
use Rattle.flat_code.specs.Codes.{published_by, outputs_by}
use Rattle.partition_code.specs.FromNets.{MatchInputs}
use Rattle.partition_code.specs.Effects.{sinks_told, HasWord}
use Rattle.cone_cutter.specs.Splits.{IsSplit}

-- The sinks of a part, and the positions in the watch list of those that are watched: these are the first numbers.
abbrev pub sinks_of_part : Net → List ℕ → CutPart → List Sink
sinks_of_part net watch part = filter_map (slice_get (sinks net watch)) part.sinks

abbrev pub positions_of_part : List ℕ → CutPart → List ℕ
positions_of_part watch part = filter (λ k. nat_lt k (length watch)) part.sinks

-- whether a word is one of a span, and of a code's own
abbrev pub spans : Span → ℕ → Bool
spans span i = nat_le span.first i && nat_lt i (span.first + span.count)

abbrev pub is_among : List Span → ℕ → Bool
is_among [] i = false
is_among (span ∷ further) i = spans span i || is_among further i

abbrev pub owns : Code → ℕ → Bool
owns code i = is_among code.owned i

-- each is a number of 64 bits
abbrev pub AreWords : List ℕ → Type 0
AreWords words = (i : ℕ) → slice_index words i < 2 ^ 64

-- The word of this number is one of these sinks.
pub record HasWordAmong (net : Net) (these : List Sink) (i : ℕ) : Type 0 where
  pub sink : Sink
  pub there : Contains these sink
  pub has : HasWord net sink i

-- A cycle that begins with the state of these words and has these inputs, with its settled values.
pub record IsCycle (net : Net) (words : List ℕ) (inputs : List Value) (rho : Valuation) : Type 0 where
  pub plain : AreWords words
  pub counted : length words ≡ state_words net
  pub given : Inputs
  pub matched : MatchInputs net inputs given
  pub settled : Settled net (state_of net words) given rho

-- how many words the registers have: these come first among the words of a state
abbrev pub register_words : Net → ℕ
register_words net = count_words (register_shapes net)

-- The code of a part of a net: whatever words a cycle begins with, it publishes exactly what the part's sinks leave, but no word of a
-- register that stays as it is, puts out the settled values of the part's watched leaves, and owns the words of the part's sinks.
pub record IsCodeOf (net : Net) (watch : List ℕ) (part : CutPart) (code : Code) : Type 0 where
  pub words : code.words ≡ state_words net
  pub positions : code.positions ≡ positions_of_part watch part
  pub owned : (i : ℕ) → IsTrue (owns code i) ↔ HasWordAmong net (sinks_of_part net watch part) i
  pub publications : (words : List ℕ) (inputs : List Value) (rho : Valuation) → IsCycle net words inputs rho
      → published_by code words inputs ≡ changed (register_words net) words (sinks_told net (state_of net words) (instant_of net (state_of net words) rho) (sinks_of_part net watch part))
  pub outputs : (words : List ℕ) (inputs : List Value) (rho : Valuation) → IsCycle net words inputs rho
      → outputs_by code words inputs ≡ map (λ k. rho (slice_index watch k)) code.positions

-- The codes of parts, one for each.
pub record AreCodesOf (net : Net) (watch : List ℕ) (parts : List CutPart) (codes : List Code) : Type 0 where
  pub counted : length codes ≡ length parts
  pub each : (p : ℕ) (part : CutPart) (code : Code) → slice_get parts p ≡ Some part → slice_get codes p ≡ Some code → IsCodeOf net watch part code

-- Which code owns a word: the first that does.
abbrev pub owner_in : List Code → ℕ → ℕ
owner_in [] i = 0
owner_in (code ∷ further) i = if owns code i then 0 else suc (owner_in further i)

abbrev pub owners_of : List Code → ℕ → List ℕ
owners_of codes count = map (owner_in codes) (range_with_len 0 count)

-- All codes of one cut of a net whose assignments have an order.
pub record AreOfOneCut (codes : List Code) : Type 0 where
  pub ordered : Ordered
  pub watch : List ℕ
  pub parts : List CutPart
  pub net : IsNet ordered.net
  pub order : IsOrder ordered.net ordered.sequence
  pub split : IsSplit ordered watch parts
  pub some : 1 ≤ length parts
  pub few : length parts ≤ 64
  pub codes_of : AreCodesOf ordered.net watch parts codes

-- They may run from these words on, under these rows of inputs.
pub record MayRun (codes : List Code) (words : List ℕ) (rows : List (List Value)) : Type 0 where
  pub cut : AreOfOneCut codes
  pub plain : AreWords words
  pub counted : length words ≡ state_words cut.ordered.net
  pub matched : (c : ℕ) (row : List Value) → slice_get rows c ≡ Some row → (given : Inputs) × MatchInputs cut.ordered.net row given
