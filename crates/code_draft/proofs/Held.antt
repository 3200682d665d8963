-- The value that stands at a location.
use Rattle.std.proofs.Common.{◌≡◌, ℕ, ◌+◌, ◌*◌, ◌/◌, ◌%◌, ◌^◌, ◌<◌, ◌≤◌, if◌then◌else◌, List, slice_index, min, sym, ap, ap₂, ◌∙◌, arith, ⊎_elim, mod-eq_of_lt, pow_mono, div-add-mod'}
use Rattle.std.proofs.lemmas.Bool.{lt-ltb, le-ltb, cases_lt}
use Rattle.bit_words.specs.declared.value.Value.{Value}
use Rattle.prim_ops.proofs.Fittings.{same_value}
use Rattle.ground_net.specs.Shapes.{Shape}
use Rattle.flat_code.specs.declared.instr.Location.{Location}
use Rattle.flat_code.specs.Meaning.{location_value, location_high}
use Rattle.code_draft.specs.Drafts.{Holds}
use Rattle.code_draft.proofs.Cuts.{fitted_bits}

-- the bits of a value from its words
pub bits_there : (F : List ℕ) (s : Location) (v : Value) → Holds F s v → slice_index F s.low + location_high F s * 2 ^ 64 ≡ v.bits
bits_there F s v h =
    let width : v.width ≡ s.width = ap (λ (t : Shape). t.width) h.shape in
    ⊎_elim
    (λ many.
    let split = div-add-mod' v.bits (2 ^ 64) in
    ap₂ (λ x y. x + y * 2 ^ 64) h.low (ap (λ b. if b then slice_index F s.high else 0) (lt-ltb 64 s.width many) ∙ h.high many) ∙ turned (v.bits % 2 ^ 64) (v.bits / 2 ^ 64 * 2 ^ 64) v.bits split)
    (λ few.
    let within : v.bits < 2 ^ v.width = v.within in
    let le : v.width ≤ 64 = omega (arith, few, width) in
    let room : 2 ^ v.width ≤ 2 ^ 64 = pow_mono le in
    ap₂ (λ x y. x + y * 2 ^ 64) (h.low ∙ mod-eq_of_lt (below v.bits (2 ^ v.width) (2 ^ 64) within room)) (ap (λ b. if b then slice_index F s.high else 0) (le-ltb 64 s.width few)) ∙ no_more v.bits)
    (cases_lt 64 s.width)
  where
    turned : (x y z : ℕ) → y + x ≡ z → x + y ≡ z
    turned x y z e = omega (arith, e)

    below : (x y z : ℕ) → x < y → y ≤ z → x < z
    below x y z l m = omega (arith, l, m)

    no_more : (x : ℕ) → x + 0 * 2 ^ 64 ≡ x
    no_more x = omega arith

-- The value at the location is the value whose words stand there.
pub held_value : (F : List ℕ) (s : Location) (v : Value) → Holds F s v → location_value F s ≡ v
held_value F s v h =
    let kind : v.kind ≡ s.kind = ap (λ (t : Shape). t.kind) h.shape in
    let width : v.width ≡ s.width = ap (λ (t : Shape). t.width) h.shape in
    let most : s.width ≤ 128 = s.narrow in
    let within : v.bits < 2 ^ v.width = v.within in
    let cut : min s.width 128 ≡ s.width = omega (arith, most) in
    let n = slice_index F s.low + location_high F s * 2 ^ 64 in
    same_value (location_value F s) v (sym kind) (cut ∙ sym width)
    (fitted_bits s.kind s.width n most ∙ (ap₂ (λ b w. b % 2 ^ w) (bits_there F s v h) (sym width) ∙ mod-eq_of_lt within))
