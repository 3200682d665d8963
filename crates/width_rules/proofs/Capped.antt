-- Widths that are counted up to 129.
use Rattle.std.proofs.Common.{◌≡◌, ◌∙◌, ℕ, zero, suc, ◌+◌, ◌≤◌, ◌^◌, nat_le, Bool, true, false, if◌then◌else◌, List, arith}
use Rattle.fir_types.specs.Bundles.{least_reaching, address_bits}
use Rattle.prim_ops.specs.declared.widths.Width.{Width}
use Rattle.prim_ops.specs.Widths.{bounded}
use Rattle.width_rules.specs.declared.rule.Formula.TheVariants.{Fixed}
use Rattle.width_rules.specs.Formulas.{width_under}
use Rattle.width_rules.specs.Places.{capped}
use Rattle.width_rules.proofs.FormulaLemmas.{width-Fixed}

-- A number past 128 is over the limit, and so is what it counts as.
pub bounded-capped : (n : ℕ) → bounded (capped n) ≡ bounded n
bounded-capped n = grind (arith)

-- the width of a formula of what a number counts as
pub width-capped : (n : ℕ) (ws : List Width) → width_under (Fixed (capped n)) ws ≡ bounded n
width-capped n ws = width-Fixed (capped n) ws ∙ bounded-capped n

bits_bound : (depth from more : ℕ) → least_reaching depth from more ≤ from + more
unfolding least_reaching
bits_bound depth from zero = omega arith
bits_bound depth from (suc more) = by (nat_le depth (2 ^ from)) (bits_bound depth (suc from) more) where
  by : (b : Bool) → least_reaching depth (suc from) more ≤ suc from + more → (if b then from else least_reaching depth (suc from) more) ≤ from + suc more
  by true h = omega arith
  by false h = omega (arith, h)

pub address_small : (depth : ℕ) → address_bits depth ≤ 128
unfolding address_bits
address_small depth = let h : least_reaching depth 1 127 ≤ 1 + 127 = bits_bound depth 1 127 in omega (arith, h)
