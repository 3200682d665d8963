-- The formulas of widths.
use Rattle.std.proofs.Common.{List, [], ◌∷◌, map, Some, refl, option_map, ◌≡◌, ℕ, ◌+◌, ◌-◌, ◌^◌, ◌<◌, ◌≤◌, ap, sym, ◌∙◌, arith, pow_mono, ⊎_elim}
use Rattle.std.proofs.lemmas.Bool.{cases_lt}
use Rattle.std.proofs.lemmas.Bool.Decides.{nat_tests}
use Rattle.prim_ops.specs.declared.widths.Width.TheVariants.{Bits, Over}
use Rattle.bit_words.specs.declared.value.Kind.{Kind}
use Rattle.bit_words.specs.declared.value.Kind.TheVariants.{Unsigned, Signed}
use Rattle.prim_ops.specs.declared.operation.PrimOp.{PrimOp}
use Rattle.prim_ops.specs.declared.operation.PrimOp.TheVariants.{ShrFour}
use Rattle.prim_ops.specs.Widths.{width_on_one, bounded, width_number, numbers_of, of_numbers, row_width}

above : (n : ℕ) → 128 < n → bounded n ≡ Over
above n more = grind (arith, nat_tests)

-- a shift by a number of up to eight bits
pub shift_width : (v w first second shift : ℕ) → first ≡ v → second ≡ w → (second < 8 → shift + 1 ≡ 2 ^ second) → (8 ≤ second → shift ≡ 255)
    → bounded (first + shift) ≡ bounded (v + 2 ^ w - 1)
shift_width v w first second shift e f exact over = ⊎_elim
    (λ less. let s : shift + 1 ≡ 2 ^ w = exact less ∙ ap (λ k. 2 ^ k) f in let same : first + shift ≡ v + 2 ^ w - 1 = omega arith in ap bounded same)
    (λ most.
    let s : shift ≡ 255 = over most in
    let wide : 8 ≤ w = omega arith in
    let p : 2 ^ 8 ≤ 2 ^ w = pow_mono wide in
    above (first + shift) (omega arith) ∙ sym (above (v + 2 ^ w - 1) (omega arith)))
    (cases_lt second 8)

numbers_back : (widths : List ℕ) → numbers_of (map (λ w. Bits w) widths) ≡ Some widths
numbers_back [] = refl
numbers_back (w ∷ widths) = ap (option_map (λ ws. w ∷ ws)) (numbers_back widths)

-- over operands whose widths are in bits
pub in_bits : (prim : PrimOp) (kinds : List Kind) (widths params : List ℕ) → row_width prim kinds (map (λ w. Bits w) widths) params ≡ bounded (width_number prim kinds widths params)
in_bits prim kinds widths params = ap (of_numbers (λ ws. width_number prim kinds ws params)) (numbers_back widths)

-- what `shr` in version 4 leaves of a width
pub shift_four_narrow : (kind : Kind) (w by : ℕ) → w ≤ 128 → width_on_one ShrFour kind w by 0 ≤ 128
shift_four_narrow Unsigned w by h = omega (arith, h)
shift_four_narrow Signed w by h = omega (arith, h)
