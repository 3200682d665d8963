-- The faults of a stimulus. Numbers are compared by value, whatever their length.
use Rattle.std.specs.Prelude.{◌≡◌, ℕ, ◌-◌, ◌<◌, ◌≤◌, Bool, true, false, List, [], ◌∷◌, length, take, slice_get, Contains, Option, Some, None, position, codes}
use Rattle.std.specs.List.{list_any}
use Rattle.std.specs.Str.{bytes_eq}
use Rattle.place_text.specs.declared.place.Place.{Place}
use Rattle.place_text.specs.Places.{place}
use Rattle.bit_words.specs.Values.{InRange}
use Rattle.bit_words.specs.Numbers.{integer_of_number}
use Rattle.ground_net.specs.declared.net.Ports.{Ports}
use Rattle.ground_net.specs.declared.net.PortLeaf.{PortLeaf}
use Rattle.stimulus.specs.declared.fault.StimFault.{StimFault}
use Rattle.stimulus.specs.declared.fault.StimFault.TheVariants.{BadLine, CyclesRange, CycleOrder, CycleRange, LeafUnknown, NotInput, LeafTwice, ValueRange, NoMemory}
use Rattle.stimulus.specs.Words.{Word, told_lines}
use Rattle.stimulus.specs.Forms.{heading_forms, setting_forms, Breaks, Heads, Said, Says}

-- the most cycles
abbrev pub most_cycles : ℕ
most_cycles = 1000000

-- whether a name is that of a leaf of a port
abbrev pub is_leaf : Ports → List ℕ → Bool
is_leaf ports name = list_any (λ other. bytes_eq name other) ports.names

-- the number of the input of a name: of the first one
abbrev pub input_of : Ports → List ℕ → Option ℕ
input_of ports name = position (λ leaf. bytes_eq name leaf.name) ports.inputs

-- The faults of a line that says this, behind these lines of settings: by column, and at one word in this order.
pub data IsLineFault (text : List ℕ) (ports : Ports) (cycles : ℕ) (before : List (List Word)) (said : Said) : StimFault → Type 0 where
  cycle_order : (line : List Word) (earlier : Said) → slice_get before (length before - 1) ≡ Some line → Says line earlier → said.cycle < earlier.cycle
      → IsLineFault text ports cycles before said (CycleOrder (place text said.cycle_word.at))
  cycle_range : cycles ≤ said.cycle → IsLineFault text ports cycles before said (CycleRange (place text said.cycle_word.at))
  leaf_unknown : is_leaf ports said.leaf.bytes ≡ false → IsLineFault text ports cycles before said (LeafUnknown (place text said.leaf.at))
  not_input : is_leaf ports said.leaf.bytes ≡ true → input_of ports said.leaf.bytes ≡ None → IsLineFault text ports cycles before said (NotInput (place text said.leaf.at))
  leaf_twice : (line : List Word) (earlier : Said) → Contains before line → Says line earlier → earlier.cycle ≡ said.cycle → earlier.leaf.bytes ≡ said.leaf.bytes
      → IsLineFault text ports cycles before said (LeafTwice (place text said.leaf.at))
  value_range : (input : ℕ) (leaf : PortLeaf) → input_of ports said.leaf.bytes ≡ Some input → slice_get ports.inputs input ≡ Some leaf
      → ¬ (InRange leaf.kind leaf.width (integer_of_number said.number)) → IsLineFault text ports cycles before said (ValueRange (place text said.value_word.at))

-- The faults of a stimulus for ports. A line that breaks its form has no fault but that.
pub data IsFault (text : List ℕ) (ports : Ports) : StimFault → Type 0 where
  no_line : told_lines text ≡ [] → IsFault text ports (BadLine (place text (length text)))
  bad_heading : (line : List Word) (lines : List (List Word)) (at : ℕ) → told_lines text ≡ line ∷ lines → Breaks heading_forms 0 line at
      → IsFault text ports (BadLine (place text at))
  cycles_range : (number : Word) (cycles : ℕ) (lines : List (List Word)) → Heads text number cycles lines → most_cycles < cycles
      → IsFault text ports (CyclesRange (place text number.at))
  bad_setting : (number : Word) (cycles : ℕ) (lines : List (List Word)) (k : ℕ) (line : List Word) (at : ℕ) → Heads text number cycles lines → slice_get lines k ≡ Some line
      → Breaks setting_forms 0 line at → IsFault text ports (BadLine (place text at))
  of_line : (number : Word) (cycles : ℕ) (lines : List (List Word)) (k : ℕ) (line : List Word) (said : Said) (fault : StimFault) → Heads text number cycles lines
      → slice_get lines k ≡ Some line → Says line said → IsLineFault text ports cycles (take k lines) said fault → IsFault text ports fault

-- where a fault stands; want of memory stands nowhere
abbrev pub place_of : StimFault → Option Place
place_of (BadLine place) = Some place
place_of (CyclesRange place) = Some place
place_of (CycleOrder place) = Some place
place_of (CycleRange place) = Some place
place_of (LeafUnknown place) = Some place
place_of (NotInput place) = Some place
place_of (LeafTwice place) = Some place
place_of (ValueRange place) = Some place
place_of NoMemory = None

-- the order of faults at one place
abbrev pub rank_of : StimFault → ℕ
rank_of (BadLine place) = 0
rank_of (CyclesRange place) = 1
rank_of (CycleOrder place) = 2
rank_of (CycleRange place) = 3
rank_of (LeafUnknown place) = 4
rank_of (NotInput place) = 5
rank_of (LeafTwice place) = 6
rank_of (ValueRange place) = 7
rank_of NoMemory = 8

-- the name of a fault's kind
abbrev pub kind_of : StimFault → List ℕ
kind_of (BadLine place) = codes "BadLine"
kind_of (CyclesRange place) = codes "CyclesRange"
kind_of (CycleOrder place) = codes "CycleOrder"
kind_of (CycleRange place) = codes "CycleRange"
kind_of (LeafUnknown place) = codes "LeafUnknown"
kind_of (NotInput place) = codes "NotInput"
kind_of (LeafTwice place) = codes "LeafTwice"
kind_of (ValueRange place) = codes "ValueRange"
kind_of NoMemory = codes "NoMemory"
