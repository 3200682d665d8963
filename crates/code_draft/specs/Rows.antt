-- Leaves whose words stand in a row.
use Rattle.std.specs.Prelude.{◌≡◌, ◌==◌, ℕ, ◌+◌, ◌-◌, ◌*◌, ◌^◌, ◌<◌, ◌≤◌, nat_lt, if◌then◌else◌, List, length, slice_get, slice_index, Option, Some, None, pos, true, bit_and, All}
use Rattle.bit_words.specs.declared.value.Kind.TheVariants.{Unsigned}
use Rattle.bit_words.specs.declared.value.Value.{Value}
use Rattle.prim_ops.specs.Values.{fitted}
use Rattle.ground_net.specs.Words.{value_at}
use Rattle.flat_code.specs.declared.instr.Op.TheVariants as op
use Rattle.flat_code.specs.declared.instr.Instr.{Instr}
use Rattle.flat_code.specs.declared.instr.Location.{Location}
use Rattle.flat_code.specs.declared.instr.Region.{Region}
use Rattle.flat_code.specs.Fine.{InRegion, location_slots, slots_of}
use Rattle.flat_code.specs.Meaning.{element_word, location_value, location_values, place_by}
use Rattle.code_draft.specs.declared.draft.Draft.{Draft}
use Rattle.code_draft.specs.Drafts.{IsDraft, Stands, Makes, Wanted, Grows, Solved, written_in}
use Rattle.code_draft.specs.Segments.{Segment}
use Rattle.code_draft.specs.declared.loading.Reading.{Reading}
use Rattle.code_draft.specs.declared.sources.Kept.{Kept}
use Rattle.code_draft.specs.declared.sources.Source.TheVariants as source
use Rattle.code_draft.specs.declared.sources.Elements.{Elements}
use Rattle.code_draft.specs.declared.sources.Sources.{Sources}
use Rattle.code_draft.specs.Sources.{leaf_source, kept_shape, elements_shape, element_value}

-- A leaf is the word of this number, of the kind and the width of the elements.
pub record IsWordAt (S : Sources) (e : Elements) (leaf number : ℕ) : Type 0 where
  pub kept : Kept
  pub there : leaf_source S leaf ≡ Some (source.Word kept)
  pub shape : kept_shape kept ≡ elements_shape e
  pub at : kept.number ≡ number

-- The leaves are the words of the elements, one for each, in order, and there are several.
pub record StandInRow (S : Sources) (leaves : List ℕ) (e : Elements) : Type 0 where
  pub several : 2 ≤ length leaves
  pub counted : e.region.depth ≡ length leaves
  pub each : (place leaf : ℕ) → slice_get leaves place ≡ Some leaf → IsWordAt S e leaf (e.region.base + place * e.region.stride)

-- how many slots the code of a load takes that has so many indices
abbrev pub slots_of_load : ℕ → ℕ
slots_of_load indices = if indices == 1 then 4 else 7 * indices + 5

-- They do, words suffice for the indices, and the code of a load takes at most two slots for each.
pub record IsRow (S : Sources) (leaves : List ℕ) (indices : List Location) (e : Elements) : Type 0 where
  pub indices_few : All (λ s. s.width ≤ 64) indices
  pub room : slots_of_load (length indices) ≤ 2 * length leaves
  pub row : StandInRow S leaves e

-- the element at a place, 0 where there is none
abbrev pub element_at_place : Elements → List ℕ → Option ℕ → Value
element_at_place e words (Some place) = if nat_lt place e.region.depth then value_at (elements_shape e) words (e.region.base + place * e.region.stride) else fitted e.kind e.width (pos 0)
element_at_place e words None = fitted e.kind e.width (pos 0)

-- The element that indices pick, where their words are cut to their widths.
abbrev pub IsPicked : Elements → List Location → List ℕ → Wanted
IsPicked e indices lengths words inputs F v = (v ≡ element_at_place e words (place_by (location_values F indices) lengths)) × All (λ s. slice_index F s.low < 2 ^ s.width) indices

-- The element whose number stands at the address, where the address's word is cut to its width.
abbrev pub IsElementAt : Reading → Wanted
IsElementAt r words inputs F v = (v ≡ element_value r.elements words (location_value F r.address)) × (slice_index F r.address.low < 2 ^ r.address.width)

-- the load of the word of a region whose number stands at a slot
abbrev pub reaching : ℕ → Region → Instr
reaching address r = record { op = op.LoadAt; shift = 0; first = address; second = r.base; third = r.stride; target = 0; mask = r.depth }

-- the word of a slot, cut by a mask
abbrev pub keeping : ℕ → ℕ → Instr
keeping slot mask = record { op = op.Keep; shift = 0; first = slot; second = 0; third = 0; target = 0; mask = mask }

-- Code that goes on with that word, cut by a mask, in a slot.
pub record GivesWordOf (old new : Draft) (address : ℕ) (r : Region) (mask slot : ℕ) : Type 0 where
  pub grows : Grows old new
  pub within : slot < new.slots
  pub written : written_in new slot ≡ true
  pub holds : (words : List ℕ) (inputs : List Value) (F : List ℕ) → Solved new words inputs F → slice_index F slot ≡ bit_and (element_word words (reaching address r) (slice_index F address)) mask

abbrev pub LoadsWord : ℕ → Region → ℕ → Draft → Draft → ℕ → Type 0
LoadsWord address r mask old new slot = IsDraft old → written_in old address ≡ true → r.base + (r.depth - 1) * r.stride < old.words → GivesWordOf old new address r mask slot

-- Code that goes on with an element at an address, and with the one that indices pick, where its words are there.
abbrev pub MakesElement : Reading → Draft → Draft → Location → Type 0
MakesElement r old new s = IsDraft old → Stands old r.address → r.address.kind ≡ Unsigned → InRegion old.words r.elements.width r.elements.region → Makes old new s (IsElementAt r)

abbrev pub MakesPicked : Elements → List Location → List ℕ → Draft → Draft → Location → Type 0
MakesPicked e indices lengths old new s = IsDraft old → All (Stands old) indices → InRegion old.words e.width e.region → Makes old new s (IsPicked e indices lengths)

-- It reads the indices' slots, keeps those of the location, and takes no more than are told for so many indices.
abbrev pub KeepsOf : List Location → Draft → Draft → Location → Type 0
KeepsOf indices old new s = (n : ℕ) → slots_of_load (length indices) ≤ n → Segment old new (slots_of indices) (location_slots s) n
