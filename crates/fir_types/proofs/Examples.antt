-- Types with their leaves, types that are and aren't equivalent, memories that are and aren't valid, and the bundles of instances and memories.
use Rattle.std.proofs.Common.{◌≡◌, ℕ, Bool, true, false, List, [], ◌∷◌, refl, Some, None, arith}
use Rattle.place_text.specs.declared.place.Place.{Place}
use Rattle.fir_types.specs.declared.fir_type.FirType.{FirType, the_lemmas}
use Rattle.fir_types.specs.declared.fir_type.Shape.{Shape}
use Rattle.fir_types.specs.declared.fir_type.Shape.TheVariants as shape
use Rattle.fir_types.specs.declared.fir_type.Field.{Field}
use Rattle.fir_types.specs.declared.leaf.PathStep.TheVariants as step
use Rattle.fir_types.specs.declared.memory.Memory.{Memory}
use Rattle.fir_types.specs.declared.memory.MemLine.{MemLine}
use Rattle.fir_types.specs.declared.memory.MemLine.TheVariants as line
use Rattle.fir_types.specs.declared.memory.Under.TheVariants as under
use Rattle.fir_types.specs.declared.memory.PortMode.TheVariants as mode
use Rattle.fir_types.specs.Memories.{IsValid}
use Rattle.fir_types.specs.Leaves.{leaves, count, has_clock, has_signal}
use Rattle.fir_types.specs.Passivity.{has_flip, IsPassive}
use Rattle.fir_types.specs.Equivalence.{Equivalent, unsigned, asyncs, vectors, a_uint, a_reset}
use Rattle.fir_types.proofs.Cases.{of_async, of_vectors, of_bundles, same_at}
use Rattle.fir_types.specs.Bundles.{instance_of, memory_of, port_type, address_bits, least_reaching, mask_of}

abbrev place : Place
place = record { line = 1; column = 1 }

abbrev typ : Shape → FirType
typ s = record { place = place; shape = s }

abbrev uint : ℕ → FirType
uint width = typ (shape.Unsigned (Some width))

abbrev field : Bool → ℕ → FirType → Field
field flip id t = record { flip = flip; name = record { id = id; place = place }; typ = t }

-- { a : UInt<1>, flip b : { c : SInt, flip d : Clock }[2] }, with the names numbered in this order
abbrev nested : FirType
nested = typ (shape.Bundle (field false 0 (uint 1)
    ∷ field true 1 (typ (shape.Vector (typ (shape.Bundle (field false 2 (typ (shape.Signed None)) ∷ field true 3 (typ shape.Clock) ∷ []))) 2)) ∷ []))

-- A flip within what is flipped turns back.
nested_leaves : leaves nested ≡
    record { path = step.Field 0 ∷ []; flip = false; typ = uint 1 }
    ∷ record { path = step.Field 1 ∷ step.Element 0 ∷ step.Field 2 ∷ []; flip = true; typ = typ (shape.Signed None) }
    ∷ record { path = step.Field 1 ∷ step.Element 0 ∷ step.Field 3 ∷ []; flip = false; typ = typ shape.Clock }
    ∷ record { path = step.Field 1 ∷ step.Element 1 ∷ step.Field 2 ∷ []; flip = true; typ = typ (shape.Signed None) }
    ∷ record { path = step.Field 1 ∷ step.Element 1 ∷ step.Field 3 ∷ []; flip = false; typ = typ shape.Clock } ∷ []
nested_leaves = grind (arith, the_lemmas)

nested_count : count nested ≡ 5
nested_count = simp the_lemmas

-- A vector of length 0 has no leaf, and its text still holds what its element holds.
no_leaves : leaves (typ (shape.Vector nested 0)) ≡ []
no_leaves = grind (arith, the_lemmas)

flip_within : has_flip (typ (shape.Vector nested 0)) ≡ true
flip_within = simp the_lemmas

uint_passive : IsPassive (uint 4)
uint_passive = simp the_lemmas

-- A Clock and an AsyncReset are signals, and only the first is a clock. A Reset is neither.
async_leaf : has_signal (typ (shape.Bundle (field true 0 (typ shape.AsyncReset) ∷ []))) ≡ true
async_leaf = grind (arith, the_lemmas)

async_is_no_clock : has_clock (typ (shape.Vector (typ shape.AsyncReset) 2)) ≡ false
async_is_no_clock = grind (arith, the_lemmas)

clock_leaf : has_signal (typ shape.Clock) ≡ true
clock_leaf = grind (arith, the_lemmas)

reset_is_no_signal : has_signal (typ shape.Reset) ≡ false
reset_is_no_signal = grind (arith, the_lemmas)

-- A vector of length 0 has no signal, as it has no leaf.
no_signal : has_signal (typ (shape.Vector (typ shape.AsyncReset) 0)) ≡ false
no_signal = grind (arith, the_lemmas)

-- AsyncReset is equivalent to itself alone.
asyncs_alike : Equivalent (typ shape.AsyncReset) (typ shape.AsyncReset)
asyncs_alike = asyncs refl refl

async_is_no_reset : Equivalent (typ shape.AsyncReset) (typ shape.Reset) → ⊥
async_is_no_reset e = let s = of_async refl e in absurd cc

async_takes_no_uint : Equivalent (typ shape.AsyncReset) (uint 1) → ⊥
async_takes_no_uint e = let s = of_async refl e in absurd cc

-- UInt<4>[2] and Reset[2] are equivalent. Vectors go by their length, and bundles by their orientation.
vectors_of_unsigned : Equivalent (typ (shape.Vector (uint 4) 2)) (typ (shape.Vector (typ shape.Reset) 2))
vectors_of_unsigned = vectors _ _ _ refl refl (unsigned (a_uint _ refl) (a_reset refl))

vectors_of_two_lengths : Equivalent (typ (shape.Vector (uint 4) 2)) (typ (shape.Vector (uint 4) 3)) → ⊥
vectors_of_two_lengths e =
    let s = of_vectors {e = uint 4} {o = uint 4} {n = 2} {m = 3} (uint 4) (uint 4) refl refl refl refl e in
    let n : ◌≡◌ {A = ℕ} 2 3 = s.0 in
    absurd (omega arith)

abbrev one : Bool → List Field
one flip = field flip 0 (uint 1) ∷ []

bundles_of_two_orientations : Equivalent (typ (shape.Bundle (one false))) (typ (shape.Bundle (one true))) → ⊥
bundles_of_two_orientations e =
    let s = same_at (of_bundles {fs = one false} {gs = one true} (one false) (one true) refl refl refl refl e) 0 (field false 0 (uint 1)) (omega arith) in
    let f : ◌≡◌ {A = Bool} false true = s.1 in
    absurd cc

-- A depth of 5 wants 3 bits of address, one of 4 wants 2, and one of 1 still has 1.
bits_of_5 : address_bits 5 ≡ 3
unfolding address_bits least_reaching
bits_of_5 = refl

bits_of_4 : address_bits 4 ≡ 2
unfolding address_bits least_reaching
bits_of_4 = refl

bits_of_1 : address_bits 1 ≡ 1
unfolding address_bits least_reaching
bits_of_1 = refl

-- { addr : UInt<3>, en : UInt<1>, clk : Clock, flip data : UInt<4> }
reader : port_type (uint 4) 5 mode.Reader place ≡
    typ (shape.Bundle (field false 0 (uint 3) ∷ field false 1 (uint 1) ∷ field false 2 (typ shape.Clock) ∷ field true 3 (uint 4) ∷ []))
unfolding address_bits least_reaching
reader = refl

-- the mask of { a : SInt<8>, b : UInt[2] } is { a : UInt<1>, b : UInt<1>[2] }
a_mask : mask_of (typ (shape.Bundle (field false 0 (typ (shape.Signed (Some 8))) ∷ field false 1 (typ (shape.Vector (typ (shape.Unsigned None)) 2)) ∷ []))) ≡
    typ (shape.Bundle (field false 0 (uint 1) ∷ field false 1 (typ (shape.Vector (uint 1) 2)) ∷ []))
a_mask = simp the_lemmas

-- mem m : data-type => UInt<4>, depth => 5, read-latency => 0, write-latency => 1, read-under-write => old, reader => r
abbrev small_lines : List MemLine
small_lines = line.Element place (uint 4) ∷ line.Depth place 5 ∷ line.ReadLatency place 0 ∷ line.WriteLatency place 1 ∷ line.ReadUnder place under.Old
    ∷ line.MemPort place mode.Reader (record { id = 10; place = place }) ∷ []

abbrev memory : List MemLine → Memory
memory lines = record { name = record { id = 9; place = place }; lines = lines }

small_is_valid : IsValid (memory small_lines)
small_is_valid = record {
  element = (uint 4, refl, tt);
  depth = (5, refl, omega arith);
  read_latency = (0, refl, omega arith);
  write_latency = (1, refl, refl);
  under = (under.Old, refl, tt);
  ports = (λ k d h. absurd (omega arith), tt);
}

small_type : memory_of (memory small_lines) ≡ typ (shape.Bundle (field true 10 (port_type (uint 4) 5 mode.Reader place) ∷ []))
small_type = refl

-- A second line of a kind is not valid, and no second port of a name.
two_depths : IsValid (memory (line.Depth place 5 ∷ small_lines)) → ⊥
two_depths v = let e = v.depth.1 in absurd cc

two_ports : IsValid (memory (line.MemPort place mode.Writer (record { id = 10; place = place }) ∷ small_lines)) → ⊥
two_ports v = v.ports.0 0 0 (omega arith) refl

-- inputs are flipped: { flip clock : Clock, out : UInt<3> }
an_instance : instance_of
    (record { output = false; name = record { id = 0; place = place }; typ = typ shape.Clock } ∷ record { output = true; name = record { id = 1; place = place }; typ = uint 3 } ∷ [])
    ≡ typ (shape.Bundle (field true 0 (typ shape.Clock) ∷ field false 1 (uint 3) ∷ []))
an_instance = refl
