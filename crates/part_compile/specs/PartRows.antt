-- What the bodies keep of a part.
use Rattle.std.specs.Prelude.{◌≡◌, ◌↔◌, ℕ, ◌+◌, ◌^◌, ◌<◌, Bool, IsTrue, List, [], ◌∷◌, ◌++◌, map, filter, filter_map, length, slice_get, slice_index, Some, Contains, All, nat_lt}
use Rattle.bit_words.specs.declared.value.Value.{Value}
use Rattle.ground_net.specs.declared.net.Net.{Net}
use Rattle.ground_net.specs.declared.net.NetMemory.{NetMemory}
use Rattle.ground_net.specs.declared.net.CutPart.{CutPart}
use Rattle.ground_net.specs.Grounds.{Instant}
use Rattle.ground_net.specs.Cones.{Sink, sinks, InCone}
use Rattle.ground_net.specs.Cycles.{Capture, captures}
use Rattle.ground_net.specs.Nets.{IsNet}
use Rattle.ground_net.specs.Words.{state_words, captured_word, memory_words, SaysItsWords}
use Rattle.flat_code.specs.declared.code.Span.{Span}
use Rattle.flat_code.specs.declared.instr.Location.{Location}
use Rattle.flat_code.specs.Meaning.{location_values}
use Rattle.partition_code.specs.Effects.{HasWord, IsWordOf, capture_shape}
use Rattle.code_draft.specs.declared.draft.Draft.{Draft}
use Rattle.code_draft.specs.Drafts.{IsDraft, Solved, Stands}
use Rattle.code_draft.specs.declared.sources.Sources.{Sources}
use Rattle.code_emit.specs.Emits.{sources_table, Sees, AreSources}
use Rattle.code_memories.specs.Telling.{TellsSinks}
use Rattle.part_compile.specs.declared.captured.CapturedRead.{CapturedRead}
use Rattle.part_compile.specs.declared.words.FirstWords.{FirstWords}
use Rattle.part_compile.specs.FirstWords.{AreFirst, told_of}
use Rattle.part_compile.specs.Knowing.{Knows}
use Rattle.part_compile.specs.declared.work.Made.{Made}
use Rattle.partition_code.specs.Codes.{is_among, HasWordAmong}

-- a net with all that is made of it for its parts
pub record IsPlan (net : Net) (watch : List ℕ) (words : FirstWords) (reads : List CapturedRead) : Type 0 where
  pub is_net : IsNet net
  pub said : SaysItsWords net
  pub few : state_words net < 2 ^ 32
  pub watched : All (λ x. x < length net.leaves) watch
  pub first : AreFirst net words
  pub captured : reads ≡ map told_of (captures net)

-- the sinks of these numbers
abbrev pub sinks_of : Net → List ℕ → List ℕ → List Sink
sinks_of net watch numbers = filter_map (slice_get (sinks net watch)) numbers

-- those of them that are positions in the watch list
abbrev pub positions_in : List ℕ → List ℕ → List ℕ
positions_in watch numbers = filter (λ k. nat_lt k (length watch)) numbers

-- the values of the watched leaves at positions
abbrev pub seen_at : List ℕ → Instant → List ℕ → List Value
seen_at watch instant positions = map (λ k. instant.leaf (slice_index watch k)) positions

-- A part's numbers are sinks whose cones are among its assignments, and these are known.
pub record IsWork (net : Net) (watch : List ℕ) (part : CutPart) (S : Sources) : Type 0 where
  pub within : (k : ℕ) → Contains part.sinks k → k < length (sinks net watch)
  pub needed : (k x : ℕ) (sink : Sink) → Contains part.sinks k → slice_get (sinks net watch) k ≡ Some sink → InCone net sink x → Contains part.assignments x
  pub known : Knows net (Contains part.assignments) (sources_table S)

-- the words of a sink are owned besides
pub record OwnsMore (net : Net) (sink : Sink) (old new : List Span) : Type 0 where
  pub spans : List Span
  pub is : new ≡ old ++ spans
  pub own : (i : ℕ) → IsTrue (is_among spans i) ↔ HasWord net sink i

-- the captured read of this number is the memory's, and has this word
pub record IsRead (net : Net) (m n i : ℕ) : Type 0 where
  pub capture : Capture
  pub there : slice_get (captures net) n ≡ Some capture
  pub number : capture.number ≡ m
  pub is : IsWordOf (captured_word net n) (capture_shape net capture) i

-- the words of the captured read of this number are owned besides, where it is the memory's
pub record OwnsRead (net : Net) (m n : ℕ) (old new : List Span) : Type 0 where
  pub spans : List Span
  pub is : new ≡ old ++ spans
  pub own : (i : ℕ) → IsTrue (is_among spans i) ↔ IsRead net m n i

-- the words of a memory's elements are owned besides, and those of so many captured reads, where they are the memory's
pub record OwnsSome (net : Net) (m : ℕ) (memory : NetMemory) (count : ℕ) (old new : List Span) : Type 0 where
  pub spans : List Span
  pub is : new ≡ old ++ record { first = memory.word; count = memory_words memory } ∷ spans
  pub from : (i : ℕ) → IsTrue (is_among spans i) → (n : ℕ) × (n < count) × IsRead net m n i
  pub to : (n i : ℕ) → n < count → IsRead net m n i → IsTrue (is_among spans i)

-- The code and the words of one sink are added.
pub record Adds (net : Net) (watch : List ℕ) (S : Sources) (k : ℕ) (sink : Sink) (old new : Made) : Type 0 where
  pub tells : TellsSinks net S (sink ∷ []) old.draft new.draft
  pub locations : List Location
  pub shown : new.shown ≡ old.shown ++ locations
  pub stand : All (Stands new.draft) locations
  pub positions : new.positions ≡ old.positions ++ positions_in watch (k ∷ [])
  pub paired : length (positions_in watch (k ∷ [])) ≡ length locations
  pub values : (words : List ℕ) (inputs : List Value) (F : List ℕ) (instant : Instant) → Solved new.draft words inputs F → Sees S words inputs F instant
      → location_values F locations ≡ seen_at watch instant (positions_in watch (k ∷ []))
  pub owned : OwnsMore net sink old.owned new.owned

-- the same of the sink of a number
abbrev pub AddsNumber : Net → List ℕ → Sources → ℕ → Made → Made → Type 0
AddsNumber net watch S k old new = (sink : Sink) × (slice_get (sinks net watch) k ≡ Some sink) × Adds net watch S k sink old new

-- So many sinks were added to a draft.
pub record SoFar (net : Net) (watch : List ℕ) (S : Sources) (start : Draft) (numbers : List ℕ) (made : Made) : Type 0 where
  pub tells : TellsSinks net S (sinks_of net watch numbers) start made.draft
  pub stand : All (Stands made.draft) made.shown
  pub positions : made.positions ≡ positions_in watch numbers
  pub paired : length made.positions ≡ length made.shown
  pub values : (words : List ℕ) (inputs : List Value) (F : List ℕ) (instant : Instant) → Solved made.draft words inputs F → Sees S words inputs F instant
      → location_values F made.shown ≡ seen_at watch instant made.positions
  pub owned : (i : ℕ) → IsTrue (is_among made.owned i) ↔ HasWordAmong net (sinks_of net watch numbers) i

-- what is done where the draft is in order
abbrev pub IsReady : Net → Sources → Draft → Type 0
IsReady net S draft = IsDraft draft × AreSources S draft × (draft.words ≡ state_words net)
