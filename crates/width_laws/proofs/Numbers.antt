-- Which widths are numbers.
use Rattle.std.proofs.Common.{◌≡◌, ℕ, zero, suc, ◌+◌, ◌≤◌, Bool, true, false, List, [], ◌∷◌, ◌++◌, map, refl, sym, ap, ◌∙◌, subst, arith}
use Rattle.std.specs.Prelude.{nat_le, ◌^◌, ◌||◌, if◌then◌else◌}
use Rattle.std.specs.List.{flat_map, list_any}
use Rattle.std.proofs.lemmas.Bool.{le-leb}
use Rattle.place_text.specs.declared.place.Place.{Place}
use Rattle.fir_types.specs.declared.memory.Memory.{Memory}
use Rattle.fir_types.specs.declared.memory.MemLine.{MemLine}
use Rattle.fir_types.specs.declared.memory.MemLine.TheVariants as line
use Rattle.fir_types.specs.declared.memory.PortMode.TheVariants as mode
use Rattle.fir_types.specs.Memories.{element_of}
use Rattle.fir_types.specs.Bundles.{address_bits, least_reaching, mask_of}
use Rattle.prim_ops.specs.declared.widths.Width.{Width}
use Rattle.prim_ops.specs.declared.widths.Width.TheVariants.{Bits, Over}
use Rattle.width_rules.specs.declared.slot.Slot.{Slot}
use Rattle.width_rules.specs.declared.slot.Slot.TheVariants as slot
use Rattle.width_rules.specs.Places.{Spot, spots}
use Rattle.width_rules.specs.Circuits.{memory_slots, line_slots, mask_slots}
use Rattle.width_rules.proofs.FormulaLemmas.{width-Fixed}
use Rattle.width_fit.specs.declared.fault.WidthFault.{WidthFault}
use Rattle.width_fit.specs.declared.fault.WidthFault.TheVariants.{WidthUnknown, WidthOver}
use Rattle.width_fit.specs.Judging.{Solved, slot_width, is_over, is_unknown, where_, component_faults}

-- a number of bits, and not Over
abbrev pub IsNumber : Width → Type 0
IsNumber (Bits n) = Unit {0}
IsNumber Over = ⊥

abbrev pub AreNumbers : List Width → List Slot → Type 0
AreNumbers ws [] = Unit {0}
AreNumbers ws (s ∷ slots) = IsNumber (slot_width ws s) × AreNumbers ws slots

pub left_empty : {X : Type 0} (xs ys : List X) → xs ++ ys ≡ [] → xs ≡ []
left_empty [] ys e = refl
left_empty (x ∷ xs) ys e = cc

pub right_empty : {X : Type 0} (xs ys : List X) → xs ++ ys ≡ [] → ys ≡ []
right_empty [] ys e = e
right_empty (x ∷ xs) ys e = cc

pub numbers_append : (ws : List Width) (xs ys : List Slot) → AreNumbers ws xs → AreNumbers ws ys → AreNumbers ws (xs ++ ys)
numbers_append ws [] ys h k = k
numbers_append ws (x ∷ xs) ys h k = (h.0, numbers_append ws xs ys h.1 k)

where_false : (b : Bool) (fault : WidthFault) → where_ b fault ≡ [] → b ≡ false
where_false true fault e = cc
where_false false fault e = refl

none_over : (ws : List Width) (slots : List Slot) → list_any (λ s. is_over (slot_width ws s)) slots ≡ false → AreNumbers ws slots
none_over ws [] e = tt
none_over ws (s ∷ slots) e = by (slot_width ws s) e (λ f. none_over ws slots f) where
  by : (w : Width) → (is_over w || list_any (λ s. is_over (slot_width ws s)) slots) ≡ false
      → (list_any (λ s. is_over (slot_width ws s)) slots ≡ false → AreNumbers ws slots) → IsNumber w × AreNumbers ws slots
  by (Bits n) f rest = (tt, rest f)
  by Over f rest = cc

-- the places of a component without a fault have numbers
pub faultless_numbers : (all : Solved) (place : Place) (slots : List Slot) → component_faults all place slots ≡ [] → AreNumbers all.widths slots
faultless_numbers all place slots e =
    none_over all.widths slots (where_false _ (WidthOver place) (right_empty (where_ (list_any (is_unknown all.rules) slots) (WidthUnknown place)) _ e))

-- Memories

bits_bound : (depth from more : ℕ) → least_reaching depth from more ≤ from + more
unfolding least_reaching
bits_bound depth from zero = omega arith
bits_bound depth from (suc more) = by (nat_le depth (2 ^ from)) (bits_bound depth (suc from) more) where
  by : (b : Bool) → least_reaching depth (suc from) more ≤ suc from + more → (if b then from else least_reaching depth (suc from) more) ≤ from + suc more
  by true h = omega arith
  by false h = omega (arith, h)

address_small : (depth : ℕ) → address_bits depth ≤ 128
unfolding address_bits
address_small depth = let h : least_reaching depth 1 127 ≤ 1 + 127 = bits_bound depth 1 127 in omega (arith, h)

fixed_number : (ws : List Width) (n : ℕ) → n ≤ 128 → IsNumber (slot_width ws (slot.Fixed n))
fixed_number ws n h = subst IsNumber (sym is) tt where
  is : slot_width ws (slot.Fixed n) ≡ Bits n
  is = width-Fixed n ws ∙ ap (λ b. if b then Bits n else Over) (le-leb n 128 h)

masks_numbers : (ws : List Width) (ss : List Spot) → AreNumbers ws (map (λ (spot : Spot). slot.Fixed 1) ss)
masks_numbers ws [] = tt
masks_numbers ws (s ∷ ss) = (fixed_number ws 1 (omega arith), masks_numbers ws ss)

module _ (ws : List Width) (memory : Memory) (element : List Slot) (h : AreNumbers ws element) where
  mask_numbers : AreNumbers ws (mask_slots memory)
  mask_numbers = masks_numbers ws (spots (mask_of (element_of memory)))

  written : AreNumbers ws (element ++ mask_slots memory)
  written = numbers_append ws element (mask_slots memory) h mask_numbers

  line_numbers : (l : MemLine) → AreNumbers ws (line_slots memory element l)
  line_numbers (line.MemPort at mode.Reader name) = (fixed_number ws _ (address_small _), (fixed_number ws 1 (omega arith), h))
  line_numbers (line.MemPort at mode.Writer name) = (fixed_number ws _ (address_small _), (fixed_number ws 1 (omega arith), written))
  line_numbers (line.MemPort at mode.ReadWriter name) =
      (fixed_number ws _ (address_small _), (fixed_number ws 1 (omega arith), numbers_append ws element (slot.Fixed 1 ∷ (element ++ mask_slots memory)) h (fixed_number ws 1 (omega arith), written)))
  line_numbers (line.Element at typ) = tt
  line_numbers (line.Depth at n) = tt
  line_numbers (line.ReadLatency at n) = tt
  line_numbers (line.WriteLatency at n) = tt
  line_numbers (line.ReadUnder at u) = tt

  lines_numbers : (ls : List MemLine) → AreNumbers ws (flat_map (line_slots memory element) ls)
  lines_numbers [] = tt
  lines_numbers (l ∷ ls) = numbers_append ws (line_slots memory element l) (flat_map (line_slots memory element) ls) (line_numbers l) (lines_numbers ls)

  -- where the places of a memory's elements have numbers, those of its ports have
  pub memory_numbers : AreNumbers ws (memory_slots memory element)
  memory_numbers = lines_numbers memory.lines
