-- The integers of values, and without their signs.
use Rattle.std.proofs.Common.{◌≡◌, ℕ, suc, ◌+◌, ◌-◌, ◌*◌, ◌^◌, ◌<◌, ◌≤◌, nat_lt, Bool, true, false, Option, Some, None, option_map, if◌then◌else◌, pos, negsuc, refl, sym, ap, ◌∙◌, arith}
use Rattle.std.specs.Prelude.{unsigned_abs}
use Rattle.std.specs.Option.{option_or, unwrap_or}
use Rattle.std.proofs.lemmas.Grind.{common_steps}
use Rattle.std.proofs.lemmas.Bool.Decides.{nat_tests}
use Rattle.bit_words.specs.declared.value.Kind.{Kind}
use Rattle.bit_words.specs.declared.value.Kind.TheVariants.{Unsigned, Signed}
use Rattle.bit_words.specs.declared.value.Value.{Value}
use Rattle.bit_words.specs.Values.{integer, integer_of}
use Rattle.prim_ops.specs.Values.{fitted}
use Rattle.plain_values.specs.Sites.{integer_or_zero}

pub or_zero : (o : Option Value) (z : Value) → z ≡ fitted Unsigned 0 (pos 0) → integer_of (unwrap_or o z) ≡ integer_or_zero o
or_zero (Some v) z is = refl
or_zero None z is = ap integer_of is

pub zero_is : (z : Value) → z ≡ fitted Unsigned 0 (pos 0) → integer_of z ≡ pos 0
zero_is z is = ap integer_of is

pub or_of : {A B : Type 0} (f : A → B) (a b : Option A) → option_map f (option_or a b) ≡ option_or (option_map f a) (option_map f b)
or_of f (Some x) b = refl
or_of f None b = refl

pub below_zero : (kind : Kind) (width bits rest : ℕ) → kind ≡ Signed → rest + 1 + bits ≡ 2 ^ width → rest < bits → rest + 1 ≡ unsigned_abs (integer kind width bits)
below_zero kind width bits rest is whole less = by (nat_lt (2 * bits) (2 ^ width)) refl ∙ ap (λ k. unsigned_abs (integer k width bits)) (sym is)
  where
    by : (b : Bool) → nat_lt (2 * bits) (2 ^ width) ≡ b → rest + 1 ≡ unsigned_abs (if b then pos bits else negsuc (2 ^ width - 1 - bits))
    by true e =
        let small : 2 * bits < 2 ^ width = grind (arith, common_steps, nat_tests, e) in
        absurd (omega (arith, small, whole, less))
    by false e =
        let same : rest + 1 ≡ suc (2 ^ width - 1 - bits) = omega (arith, whole) in
        same

pub from_zero : (kind : Kind) (width bits rest : ℕ) → kind ≡ Signed → rest + 1 + bits ≡ 2 ^ width → bits ≤ rest → bits ≡ unsigned_abs (integer kind width bits)
from_zero kind width bits rest is whole less = by (nat_lt (2 * bits) (2 ^ width)) refl ∙ ap (λ k. unsigned_abs (integer k width bits)) (sym is)
  where
    by : (b : Bool) → nat_lt (2 * bits) (2 ^ width) ≡ b → bits ≡ unsigned_abs (if b then pos bits else negsuc (2 ^ width - 1 - bits))
    by true e = refl
    by false e =
        let large : 2 ^ width ≤ 2 * bits = grind (arith, common_steps, nat_tests, e) in
        absurd (omega (arith, large, whole, less))
