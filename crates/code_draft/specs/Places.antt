-- The place of an element by its indices, as a word of a slot.
use Rattle.std.specs.Prelude.{◌≡◌, ℕ, ◌+◌, ◌*◌, ◌%◌, ◌^◌, ◌<◌, ◌≤◌, true, nat_lt, if◌then◌else◌, List, slice_index, ◌++◌, Option, Some, None, All}
use Rattle.bit_words.specs.declared.value.Value.{Value}
use Rattle.ground_net.specs.Grounds.{element_count}
use Rattle.flat_code.specs.declared.instr.Op.{Op}
use Rattle.flat_code.specs.declared.instr.Instr.{Instr}
use Rattle.flat_code.specs.declared.instr.Location.{Location}
use Rattle.flat_code.specs.declared.instr.Port.{Port}
use Rattle.flat_code.specs.declared.instr.Wide.{Wide}
use Rattle.flat_code.specs.Meaning.{location_values, place_by}
use Rattle.flat_code.specs.Fine.{among, reads_of, writes_of}
use Rattle.code_draft.specs.declared.draft.Draft.{Draft}
use Rattle.code_draft.specs.Drafts.{IsDraft, Grows, Solved, written_in}
use Rattle.code_draft.specs.Segments.{GoesOn}
use Rattle.code_draft.specs.declared.places.Level.{Level}

-- A number tells a place of so many: it is the place, and where there is none, at least the number of all.
abbrev pub Tells : ℕ → ℕ → Option ℕ → ℕ → Type 0
Tells all count (Some place) number = (number ≡ place) × (place < count)
Tells all count None number = (all ≤ number) × (number < all + count)

-- the low word of a location is cut to its width
abbrev pub IsCut : List ℕ → Location → Type 0
IsCut F s = slice_index F s.low < 2 ^ s.width

-- an instruction on slots
abbrev pub on_slots : Op → ℕ → ℕ → ℕ → ℕ → Instr
on_slots op first second third mask = record { op = op; shift = 0; first = first; second = second; third = third; target = 0; mask = mask }

-- Code that goes on, with a word in a slot, of the frame.
pub record Gives (old new : Draft) (slot : ℕ) (W : List ℕ → ℕ) : Type 0 where
  pub grows : Grows old new
  pub within : slot < new.slots
  pub written : written_in new slot ≡ true
  pub holds : (words : List ℕ) (inputs : List Value) (F : List ℕ) → Solved new words inputs F → slice_index F slot ≡ W F

-- Code that goes on, and reads no other older slots than these.
pub record Adds (old new : Draft) (outer : List ℕ) : Type 0 where
  pub instrs : List Instr
  pub is : new.instrs ≡ old.instrs ++ instrs
  pub tables : GoesOn old new.ports new.wides
  pub slots : old.slots ≤ new.slots
  pub reads : (ports : List Port) (wides : List Wide) → GoesOn new ports wides → All (λ i. (k : ℕ) → k < old.slots → among (reads_of ports wides i) k ≡ true → among outer k ≡ true) instrs
  pub writes : (ports : List Port) (wides : List Wide) → GoesOn new ports wides → All (λ i. (k : ℕ) → among (writes_of wides i) k ≡ true → (old.slots ≤ k) × (k < new.slots)) instrs

-- the word of an index times the elements inside, and the rest
abbrev pub offset_word : Level → ℕ → List ℕ → ℕ
offset_word l rest F = (slice_index F l.index.low * l.inner % 2 ^ 64 + slice_index F rest) % 2 ^ 64

-- that where the index is below its length, and else a number that tells no place
abbrev pub guarded_word : Level → ℕ → List ℕ → ℕ
guarded_word l sum F = if nat_lt (slice_index F l.index.low) l.length then slice_index F sum else l.all

abbrev pub level_word : Level → ℕ → List ℕ → ℕ
level_word l rest F = if nat_lt (slice_index F l.index.low) l.length then offset_word l rest F else l.all

-- Code that goes on with that word, where the index is cut.
pub record GivesLevel (old new : Draft) (l : Level) (rest slot : ℕ) : Type 0 where
  pub grows : Grows old new
  pub within : slot < new.slots
  pub written : written_in new slot ≡ true
  pub holds : (words : List ℕ) (inputs : List Value) (F : List ℕ) → Solved new words inputs F → IsCut F l.index → slice_index F slot ≡ level_word l rest F

-- where the index and another slot are written
abbrev pub GivesFrom : Level → ℕ → (Level → ℕ → List ℕ → ℕ) → Draft → Draft → ℕ → Type 0
GivesFrom l other W old new slot = IsDraft old → written_in old l.index.low ≡ true → written_in old other ≡ true → Gives old new slot (W l other)

abbrev pub AddsIndex : Level → ℕ → Draft → Draft → ℕ → Type 0
AddsIndex l rest old new slot = IsDraft old → written_in old l.index.low ≡ true → written_in old rest ≡ true → GivesLevel old new l rest slot

-- Code that goes on with a slot whose word tells the place that indices pick.
pub record Finds (old new : Draft) (indices : List Location) (lengths : List ℕ) (all slot : ℕ) : Type 0 where
  pub grows : Grows old new
  pub within : slot < new.slots
  pub written : written_in new slot ≡ true
  pub holds : (words : List ℕ) (inputs : List Value) (F : List ℕ) → Solved new words inputs F → All (IsCut F) indices
      → Tells all (element_count lengths) (place_by (location_values F indices) lengths) (slice_index F slot)
