-- Types that are and aren't equivalent, literals that do and don't fit, and faults of stored types and of memories.
use Rattle.std.proofs.Common.{◌≡◌, ℕ, Bool, true, false, List, [], ◌∷◌, ◌++◌, refl, Some, None, arith}
use Rattle.std.proofs.lemmas.Grind.{common_steps}
use Rattle.bit_words.specs.declared.number.Number.{Number}
use Rattle.bit_words.specs.declared.value.Kind.TheVariants.{Unsigned, Signed}
use Rattle.bit_words.specs.Numbers.{integer_of_number}
use Rattle.place_text.specs.declared.place.Place.{Place}
use Rattle.fir_types.specs.declared.fir_type.FirType.{FirType, the_lemmas}
use Rattle.fir_types.specs.declared.fir_type.Shape.{Shape}
use Rattle.fir_types.specs.declared.fir_type.Shape.TheVariants as shape
use Rattle.fir_types.specs.declared.fir_type.Field.{Field}
use Rattle.fir_types.specs.declared.name.Name.{Name}
use Rattle.fir_types.specs.declared.memory.Memory.{Memory}
use Rattle.fir_types.specs.declared.memory.MemLine.{MemLine}
use Rattle.fir_types.specs.declared.memory.MemLine.TheVariants as line
use Rattle.fir_types.specs.declared.memory.Under.TheVariants as under
use Rattle.fir_types.specs.declared.memory.PortMode.TheVariants as mode
use Rattle.type_check.specs.declared.fault.TypeFault.TheVariants.{FieldTwice, OperandKind, NotPassive, MemoryField}
use Rattle.type_check.specs.Parts.{one_fault}
use Rattle.type_check.specs.Texts.{are_equivalent, twice_in, stored_faults}
use Rattle.type_check.specs.Expressions.{fits_literal}
use Rattle.type_check.specs.Memories.{memory_faults}

-- the place in this column of line 1
abbrev at : ℕ → Place
at column = record { line = 1; column = column }

abbrev typ : Shape → FirType
typ s = record { place = at 1; shape = s }

abbrev uint : ℕ → FirType
uint width = typ (shape.Unsigned (Some width))

abbrev sint : ℕ → FirType
sint width = typ (shape.Signed (Some width))

-- a name with a number, in a column
abbrev name : ℕ → ℕ → Name
name id column = record { id = id; place = at column }

abbrev field : Bool → Name → FirType → Field
field flip n t = record { flip = flip; name = n; typ = t }

-- UInt<3> and Reset are equivalent, UInt<3> and SInt<3> are not.
a_reset_is_a_uint : are_equivalent (uint 3) (typ shape.Reset) ≡ true
a_reset_is_a_uint = grind (arith, common_steps, the_lemmas)

a_uint_is_no_sint : are_equivalent (uint 3) (sint 3) ≡ false
a_uint_is_no_sint = grind (arith, common_steps, the_lemmas)

-- AsyncReset is equivalent to itself alone, in both orders, and not to what a Reset is.
an_async_is_one : are_equivalent (typ shape.AsyncReset) (typ shape.AsyncReset) ≡ true
an_async_is_one = grind (arith, common_steps, the_lemmas)

an_async_is_no_uint : are_equivalent (typ shape.AsyncReset) (uint 1) ≡ false
an_async_is_no_uint = grind (arith, common_steps, the_lemmas)

a_uint_is_no_async : are_equivalent (uint 1) (typ shape.AsyncReset) ≡ false
a_uint_is_no_async = grind (arith, common_steps, the_lemmas)

a_reset_is_no_async : are_equivalent (typ shape.Reset) (typ shape.AsyncReset) ≡ false
a_reset_is_no_async = grind (arith, common_steps, the_lemmas)

-- Bundles go by names and orientation, vectors by length.
abbrev one : Bool → ℕ → FirType → FirType
one flip id t = typ (shape.Bundle (field flip (name id 1) t ∷ []))

same_bundles : are_equivalent (one true 7 (uint 3)) (one true 7 (typ shape.Reset)) ≡ true
same_bundles = grind (arith, common_steps, the_lemmas)

two_orientations : are_equivalent (one true 7 (uint 3)) (one false 7 (uint 3)) ≡ false
two_orientations = grind (arith, common_steps, the_lemmas)

two_lengths : are_equivalent (typ (shape.Vector (uint 3) 2)) (typ (shape.Vector (uint 3) 4)) ≡ false
two_lengths = grind (arith, common_steps, the_lemmas)

-- 3 fits UInt<2> and 4 does not; SInt<3> goes from -4 to 3; -0 fits UInt<0>.
abbrev number : Bool → ℕ → Number
number negative magnitude = record { negative = negative; magnitude = magnitude }

three_fits : fits_literal Unsigned (Some 2) (integer_of_number (number false 3)) ≡ true
three_fits = refl

four_does_not : fits_literal Unsigned (Some 2) (integer_of_number (number false 4)) ≡ false
four_does_not = refl

least_fits : fits_literal Signed (Some 3) (integer_of_number (number true 4)) ≡ true
least_fits = refl

below_least : fits_literal Signed (Some 3) (integer_of_number (number true 5)) ≡ false
below_least = refl

minus_zero_fits : fits_literal Unsigned (Some 0) (integer_of_number (number true 0)) ≡ true
minus_zero_fits = refl

one_does_not : fits_literal Unsigned (Some 0) (integer_of_number (number false 1)) ≡ false
one_does_not = refl

minus_zero_without_width : fits_literal Unsigned None (integer_of_number (number true 0)) ≡ true
minus_zero_without_width = refl

minus_one_without_width : fits_literal Unsigned None (integer_of_number (number true 1)) ≡ false
minus_one_without_width = refl

-- { a : UInt<1>, b : { a : UInt<1> }, a : UInt<1> } has a second a, and the one within is its first.
second_a : twice_in (typ (shape.Bundle (field false (name 7 1) (uint 1) ∷ field false (name 8 2) (one false 7 (uint 1)) ∷ field false (name 7 3) (uint 1) ∷ [])))
    ≡ one_fault (FieldTwice (at 3))
second_a = grind (arith, common_steps, the_lemmas)

-- A stored type has no clock, no AsyncReset and no flip, also not where a vector has no elements.
stored_clock : stored_faults (typ shape.Clock) ≡ one_fault (OperandKind (at 1))
stored_clock = grind (arith, common_steps, the_lemmas)

stored_async : stored_faults (typ shape.AsyncReset) ≡ one_fault (OperandKind (at 1))
stored_async = grind (arith, common_steps, the_lemmas)

stored_flip : stored_faults (typ (shape.Vector (one true 7 (uint 1)) 0)) ≡ one_fault (NotPassive (at 1))
stored_flip = grind (arith, common_steps, the_lemmas)

-- mem m : data-type => UInt<4>, depth => 5, read-latency => 0, write-latency => 1, read-under-write => old, reader => r
abbrev lines : List MemLine
lines = line.Element (at 2) (uint 4) ∷ line.Depth (at 3) 5 ∷ line.ReadLatency (at 4) 0 ∷ line.WriteLatency (at 5) 1 ∷ line.ReadUnder (at 6) under.Old
    ∷ line.MemPort (at 7) mode.Reader (name 10 8) ∷ []

abbrev memory : List MemLine → Memory
memory ls = record { name = name 9 1; lines = ls }

no_fault : memory_faults (memory lines) ≡ []
no_fault = grind (arith, common_steps, the_lemmas)

-- A second depth is a fault at its line, and a second port of a name at the name. Where no line stands, all five are missing, at the memory's name.
second_depth : memory_faults (memory (lines ++ line.Depth (at 9) 6 ∷ [])) ≡ one_fault (MemoryField (at 9))
second_depth = grind (arith, common_steps, the_lemmas)

second_port : memory_faults (memory (lines ++ line.MemPort (at 9) mode.Writer (name 10 11) ∷ [])) ≡ one_fault (MemoryField (at 11))
second_port = grind (arith, common_steps, the_lemmas)

all_missing : memory_faults (memory []) ≡ one_fault (MemoryField (at 1)) ++ one_fault (MemoryField (at 1)) ++ one_fault (MemoryField (at 1)) ++ one_fault (MemoryField (at 1))
    ++ one_fault (MemoryField (at 1))
all_missing = refl
