-- Instructions that compute, and locations of one slot.
use Rattle.std.specs.Prelude.{◌≡◌, ℕ}
use Rattle.bit_words.specs.declared.value.Kind.{Kind}
use Rattle.ground_net.specs.Shapes.{shaped}
use Rattle.flat_code.specs.declared.instr.Op.{Op}
use Rattle.flat_code.specs.declared.instr.Instr.{Instr}
use Rattle.flat_code.specs.declared.instr.Location.{Location}
use Rattle.flat_code.specs.Meaning.{location_shape}

abbrev pub working : Op → ℕ → ℕ → ℕ → ℕ → ℕ → Instr
working op shift first second third mask = record { op = op; shift = shift; first = first; second = second; third = third; target = 0; mask = mask }

-- the instruction with another first slot
abbrev pub from_slot : ℕ → Instr → Instr
from_slot slot i = record { op = i.op; shift = i.shift; first = slot; second = i.second; third = i.third; target = i.target; mask = i.mask }

-- the instruction with other first and second slots
abbrev pub from_slots : ℕ → ℕ → Instr → Instr
from_slots first second i = record { op = i.op; shift = i.shift; first = first; second = second; third = i.third; target = i.target; mask = i.mask }

-- the location of a kind and a width in one slot
abbrev pub at_one_slot : Kind → ℕ → ℕ → Location → Type 0
at_one_slot kind width slot s = (location_shape s ≡ shaped kind width) × (s.low ≡ slot) × (s.high ≡ slot)
