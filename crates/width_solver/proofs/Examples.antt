-- Rules whose least widths are stated.
use Rattle.std.proofs.Common.{◌≡◌, ℕ, zero, suc, ◌+◌, ◌≤◌, max, min, List, [], ◌∷◌, get_or, refl, arith}
use Rattle.std.proofs.lemmas.List.Elements.{All-nil, All-cons, All-head, All-tail}
use Rattle.bit_words.specs.declared.value.Kind.TheVariants.{Unsigned}
use Rattle.prim_ops.specs.declared.operation.PrimOp.TheVariants.{Add}
use Rattle.prim_ops.specs.declared.widths.Width.{Width}
use Rattle.prim_ops.specs.declared.widths.Width.TheVariants.{Bits, Over}
use Rattle.width_rules.specs.declared.rule.Formula.TheVariants.{Fixed, Var, Op}
use Rattle.width_rules.specs.declared.rule.Rule.{Rule}
use Rattle.width_rules.specs.Formulas.{level, width_under}
use Rattle.width_rules.specs.Solutions.{level_at, IsWidth, IsAssignment, MeetsOne, Meets, AtOrBelow, IsLeast}
use Rattle.width_rules.proofs.FormulaLemmas.{width-Fixed, width-Var, width-Op}
use Rattle.width_rules.proofs.Monotone.{level-bounded}

both : (first second : Rule) (w : List Width) → MeetsOne first w → MeetsOne second w → Meets (first ∷ second ∷ []) w
both first second w h i = All-cons (λ r. MeetsOne r w) first (second ∷ []) h (All-cons (λ r. MeetsOne r w) second [] i (All-nil (λ r. MeetsOne r w)))

first_of : (first second : Rule) (w : List Width) → Meets (first ∷ second ∷ []) w → MeetsOne first w
first_of first second w h = All-head (λ r. MeetsOne r w) first (second ∷ []) h

second_of : (first second : Rule) (w : List Width) → Meets (first ∷ second ∷ []) w → MeetsOne second w
second_of first second w h = All-head (λ r. MeetsOne r w) second [] (All-tail (λ r. MeetsOne r w) first (second ∷ []) h)

-- x is at least 3 bits wide, and y at least as wide as x

abbrev at_least_3 : Rule
at_least_3 = record { target = 0; formula = Fixed 3 }

abbrev as_wide : Rule
as_wide = record { target = 1; formula = Var 0 }

abbrev threes : List Width
threes = Bits 3 ∷ Bits 3 ∷ []

three_bits : (k : ℕ) → IsWidth (get_or threes k (Bits 0))
three_bits zero = omega arith
three_bits (suc zero) = omega arith
three_bits (suc (suc k)) = omega arith

three_below : (other : List Width) → Meets (at_least_3 ∷ as_wide ∷ []) other → AtOrBelow threes other
three_below other meets zero = omega (arith, rw (width-Fixed 3 other) at (first_of at_least_3 as_wide other meets))
three_below other meets (suc zero) =
    omega (arith, rw (width-Fixed 3 other) at (first_of at_least_3 as_wide other meets), rw (width-Var 0 other) at (second_of at_least_3 as_wide other meets))
three_below other meets (suc (suc k)) = omega arith

pub both_have_three : IsLeast (at_least_3 ∷ as_wide ∷ []) 2 threes
both_have_three = record {
  assignment = record { counted = refl; bounded = three_bits };
  meets = both at_least_3 as_wide threes (rw (width-Fixed 3 threes) (omega arith)) (rw (width-Var 0 threes) (omega arith));
  least = λ other assigned meets. three_below other meets;
}

-- A register of 3 bits takes itself and 1 more: no number of bits is enough.

abbrev one_more : Rule
one_more = record { target = 0; formula = Op Add (Unsigned ∷ Unsigned ∷ []) (Var 0 ∷ Fixed 1 ∷ []) [] }

abbrev over : List Width
over = Over ∷ []

over_is_width : (k : ℕ) → IsWidth (get_or over k (Bits 0))
over_is_width zero = tt
over_is_width (suc k) = omega arith

grown : (w : List Width) (n : ℕ) → get_or w 0 (Bits 0) ≡ Bits n → level (width_under one_more.formula w) ≡ min (max n 1 + 1) 129
grown w n e = rw (width-Op Add (Unsigned ∷ Unsigned ∷ []) (Var 0 ∷ Fixed 1 ∷ []) [] w, width-Var 0 w, width-Fixed 1 w, e) (level-bounded (max n 1 + 1))

over_below : (w : List Width) (x : Width) → get_or w 0 (Bits 0) ≡ x → IsWidth x → Meets (at_least_3 ∷ one_more ∷ []) w → 129 ≤ level_at w 0
over_below w (Bits n) e is meets =
    let more = rw (grown w n e) at (second_of at_least_3 one_more w meets) in
    let same = rw e at more in absurd (omega (arith, is, same))
over_below w Over e is meets = rw e (omega arith)

pub register_is_over : IsLeast (at_least_3 ∷ one_more ∷ []) 1 over
register_is_over = record {
  assignment = record { counted = refl; bounded = over_is_width };
  meets = both at_least_3 one_more over (rw (width-Fixed 3 over) (omega arith)) (rw (width-Op Add (Unsigned ∷ Unsigned ∷ []) (Var 0 ∷ Fixed 1 ∷ []) [] over, width-Var 0 over) (omega arith));
  least = λ other assigned meets k. below other assigned meets k;
}
  where
    below : (other : List Width) → IsAssignment 1 other → Meets (at_least_3 ∷ one_more ∷ []) other → AtOrBelow over other
    below other assigned meets zero = over_below other (get_or other 0 (Bits 0)) refl (assigned.bounded 0) meets
    below other assigned meets (suc k) = omega arith
