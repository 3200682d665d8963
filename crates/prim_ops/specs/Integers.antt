-- Integers as the code holds them.
use Rattle.std.specs.Prelude.{ℕ, Bool, true, false, ℤ, pos, negsuc, neg_ℤ}
use Rattle.prim_ops.specs.declared.words.Integer.{Integer}
use Rattle.prim_ops.specs.declared.words.Integer.TheVariants.{FromZero, BelowZero}

-- the integer that is meant
abbrev pub meaning : Integer → ℤ
meaning (FromZero n) = pos n
meaning (BelowZero n) = negsuc n

-- whether an integer is below zero
abbrev pub is_below : ℤ → Bool
is_below (pos n) = false
is_below (negsuc n) = true

-- the integer of a sign and a magnitude
abbrev pub signed_by : Bool → ℕ → ℤ
signed_by true size = neg_ℤ (pos size)
signed_by false size = pos size
