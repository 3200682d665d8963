-- The texts: how long they may be, their faults as a whole, and where the stimulus begins in a text that holds both.
use Rattle.std.specs.Prelude.{◌≡◌, ◌≢◌, ℕ, ◌+◌, ◌-◌, ◌<◌, ◌≤◌, Bool, true, false, List, [], ◌++◌, length, take, drop, codes, slice_get, Some, ◌⊎◌}
use Rattle.asked_texts.specs.declared.texts.WholeFault.{WholeFault}
use Rattle.asked_texts.specs.declared.texts.WholeFault.TheVariants.{TooLong, NoStimulus, WatchUnknown}
use Rattle.asked_texts.specs.Commands.{Job, Run, Check, Widths, Cut, Refine, Vcd, Save, Resume, Log}

-- the greatest length of a stimulus's text, in bytes
abbrev pub stimulus_limit : ℕ
stimulus_limit = 4194304

-- the names of faults that have no place of their own
abbrev pub whole_name : WholeFault → List ℕ
whole_name TooLong = codes "TooLong"
whole_name NoStimulus = codes "NoStimulus"
whole_name WatchUnknown = codes "WatchUnknown"

-- The line `%stimulus`, by itself up to its end, and what stands behind it: a carriage return may stand before its line
-- feed, and the text may end without one.
abbrev pub IsStimulusLine : List ℕ → List ℕ → Type 0
IsStimulusLine bytes after =
    (bytes ≡ codes "%stimulus\n" ++ after) ⊎ (bytes ≡ codes "%stimulus\r\n" ++ after) ⊎ ((bytes ≡ codes "%stimulus") × (after ≡ []))

-- the line `%stimulus` stands at the offset, with this behind it: it is the text's first line, or stands behind a line feed
pub record StandsAt (text : List ℕ) (at : ℕ) (after : List ℕ) : Type 0 where
  pub within : at ≤ length text
  pub begins : 0 < at → slice_get text (at - 1) ≡ Some 10
  pub line : IsStimulusLine (drop at text) after

-- no such line stands before the offset
abbrev pub NoneBefore : List ℕ → ℕ → Type 0
NoneBefore text limit = (at : ℕ) (after : List ℕ) → at < limit → StandsAt text at after → ⊥

-- The text before the first line `%stimulus`, and the text behind it.
pub record IsSplit (text before after : List ℕ) : Type 0 where
  pub at : ℕ
  pub stands : StandsAt text at after
  pub first : NoneBefore text at
  pub front : before ≡ take at text

-- no such line stands in the text
abbrev pub HasNone : List ℕ → Type 0
HasNone text = (at : ℕ) (after : List ℕ) → StandsAt text at after → ⊥

-- the first line feed is the last of these first bytes
pub record EndsFirst (bytes : List ℕ) (n : ℕ) : Type 0 where
  pub some : 0 < n
  pub within : n ≤ length bytes
  pub feed : slice_get bytes (n - 1) ≡ Some 10
  pub none : (k : ℕ) → k + 1 < n → slice_get bytes k ≢ Some 10

-- whether a job takes all of a text for the circuit's where it has no line `%stimulus`: one that runs the circuit doesn't
abbrev pub reads_all : Job → Bool
reads_all Run = false
reads_all Check = true
reads_all Widths = true
reads_all (Cut workers) = true
reads_all (Refine workers) = true
reads_all (Vcd names) = false
reads_all (Save begin) = false
reads_all (Resume begin) = false
reads_all Log = false

-- The circuit's text and the stimulus's: what stands before the line `%stimulus`, and what stands behind it. Where the circuit isn't run all of
-- a text without such a line is the circuit's, and the stimulus's is empty.
pub data IsPart : Job → List ℕ → List ℕ → List ℕ → Type 0 where
  before_line : (job : Job) (joined circuit stimulus : List ℕ) → IsSplit joined circuit stimulus → IsPart job joined circuit stimulus
  all_of_it : (job : Job) (joined : List ℕ) → reads_all job ≡ true → HasNone joined → IsPart job joined joined []
