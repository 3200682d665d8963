-- The width of a formula grows with the widths of the variables.
use Rattle.std.proofs.Common.{◌≡◌, ℕ, ◌≤◌, max, min, Bool, true, false, nat_le, if◌then◌else◌, List, [], ◌∷◌, Option, Some, None, option_map, get_or, refl, arith}
use Rattle.std.specs.List.{AllByRecursion}
use Rattle.std.proofs.lemmas.Bool.{leb-true, leb-false}
use Rattle.bit_words.specs.declared.value.Kind.{Kind}
use Rattle.prim_ops.specs.declared.operation.PrimOp.{PrimOp}
use Rattle.prim_ops.specs.declared.widths.Width.{Width}
use Rattle.prim_ops.specs.declared.widths.Width.TheVariants.{Bits, Over}
use Rattle.prim_ops.specs.Widths.{width_number, numbers_of, bounded, of_numbers}
use Rattle.width_rules.specs.declared.rule.Formula.{Formula}
use Rattle.width_rules.specs.Formulas.{level, wider, greatest, width_under}
use Rattle.width_rules.specs.Solutions.{IsWidth, AtOrBelow}
use Rattle.width_rules.proofs.Growing.{AreBelow, number_grows}
use Rattle.width_rules.proofs.FormulaLemmas.{formula_induction, widths_under, width-Fixed, width-Var, width-Op, width-Greatest}

pub level_small : (w : Width) → IsWidth w → level w ≤ 129
level_small (Bits n) h = omega (arith, h)
level_small Over h = omega arith

-- numbers of bits

pub level-bounded : (n : ℕ) → level (bounded n) ≡ min n 129
level-bounded n = by (nat_le n 128) refl
  where
    by : (b : Bool) → nat_le n 128 ≡ b → level (if b then Bits n else Over) ≡ min n 129
    by true e = omega (arith, leb-true n 128 e)
    by false e = omega (arith, leb-false n 128 e)

width-bounded : (n : ℕ) → IsWidth (bounded n)
width-bounded n = by (nat_le n 128) refl
  where
    by : (b : Bool) → nat_le n 128 ≡ b → IsWidth (if b then Bits n else Over)
    by true e = leb-true n 128 e
    by false e = tt

width-of_numbers : (f : List ℕ → ℕ) (o : Option (List ℕ)) → IsWidth (of_numbers f o)
width-of_numbers f (Some ws) = width-bounded (f ws)
width-of_numbers f None = tt

-- the greater of two

pub level-wider : (v w : Width) → level (wider v w) ≡ max (level v) (level w)
level-wider v w = by (nat_le (level v) (level w)) refl
  where
    by : (b : Bool) → nat_le (level v) (level w) ≡ b → level (if b then w else v) ≡ max (level v) (level w)
    by true e = omega (arith, leb-true (level v) (level w) e)
    by false e = omega (arith, leb-false (level v) (level w) e)

width-wider : (v w : Width) → IsWidth v → IsWidth w → IsWidth (wider v w)
width-wider v w h i = by (nat_le (level v) (level w))
  where
    by : (b : Bool) → IsWidth (if b then w else v)
    by true = i
    by false = h

width-greatest : (w : List Width) (parts : List Formula) → AllByRecursion (λ f. IsWidth (width_under f w)) parts → IsWidth (greatest (widths_under parts w))
width-greatest w [] all = omega arith
width-greatest w (f ∷ fs) all = width-wider (width_under f w) (greatest (widths_under fs w)) all.0 (width-greatest w fs all.1)

-- the width of a formula is 0 to 128 bits, or Over
pub width_is_width : (w : List Width) → ((k : ℕ) → IsWidth (get_or w k (Bits 0))) → (f : Formula) → IsWidth (width_under f w)
width_is_width w h = formula_induction (λ f. IsWidth (width_under f w))
    (λ n. rw (width-Fixed n w) (width-bounded n))
    (λ x. rw (width-Var x w) (h x))
    (λ prim kinds parts params all. rw (width-Op prim kinds parts params w) (width-of_numbers (λ ws. width_number prim kinds ws params) (numbers_of (widths_under parts w))))
    (λ parts all. rw (width-Greatest parts w) (width-greatest w parts all))

-- the numbers of widths grow, until one is Over
abbrev Beyond : Option (List ℕ) → Option (List ℕ) → Type 0
Beyond None o = Unit {0}
Beyond (Some ws) (Some vs) = AreBelow vs ws
Beyond (Some ws) None = ⊥

beyond_bits : (m n : ℕ) (o p : Option (List ℕ)) → m ≤ n → Beyond p o → Beyond (option_map (λ ws. n ∷ ws) p) (option_map (λ ws. m ∷ ws) o)
beyond_bits m n o None h i = tt
beyond_bits m n (Some vs) (Some ws) h i = (h, i)
beyond_bits m n None (Some ws) h i = absurd i

beyond_cons : (v w : Width) (vs ws : List Width) → IsWidth w → level v ≤ level w → Beyond (numbers_of ws) (numbers_of vs) → Beyond (numbers_of (w ∷ ws)) (numbers_of (v ∷ vs))
beyond_cons v Over vs ws is h i = tt
beyond_cons (Bits m) (Bits n) vs ws is h i = beyond_bits m n (numbers_of vs) (numbers_of ws) h i
beyond_cons Over (Bits n) vs ws is h i = absurd (omega (arith, is, h))

beyond : (v w : List Width) → ((k : ℕ) → IsWidth (get_or w k (Bits 0))) → (parts : List Formula) → AllByRecursion (λ f. level (width_under f v) ≤ level (width_under f w)) parts
    → Beyond (numbers_of (widths_under parts w)) (numbers_of (widths_under parts v))
beyond v w is [] all = tt
beyond v w is (f ∷ fs) all = beyond_cons (width_under f v) (width_under f w) (widths_under fs v) (widths_under fs w) (width_is_width w is f) all.0 (beyond v w is fs all.1)

row_grows : (prim : PrimOp) (kinds : List Kind) (params : List ℕ) (o p : Option (List ℕ)) → Beyond p o
    → level (of_numbers (λ ws. width_number prim kinds ws params) o) ≤ level (of_numbers (λ ws. width_number prim kinds ws params) p)
row_grows prim kinds params (Some vs) (Some ws) h =
    omega (arith, level-bounded (width_number prim kinds vs params), level-bounded (width_number prim kinds ws params), number_grows prim kinds vs ws params h)
row_grows prim kinds params None (Some ws) h = absurd h
row_grows prim kinds params (Some vs) None h = omega (arith, level-bounded (width_number prim kinds vs params))
row_grows prim kinds params None None h = omega arith

greatest_grows : (v w : List Width) (parts : List Formula) → AllByRecursion (λ f. level (width_under f v) ≤ level (width_under f w)) parts
    → level (greatest (widths_under parts v)) ≤ level (greatest (widths_under parts w))
greatest_grows v w [] all = omega arith
greatest_grows v w (f ∷ fs) all =
    omega (arith, all.0, greatest_grows v w fs all.1, level-wider (width_under f v) (greatest (widths_under fs v)), level-wider (width_under f w) (greatest (widths_under fs w)))

pub width_grows : (v w : List Width) → ((k : ℕ) → IsWidth (get_or w k (Bits 0))) → AtOrBelow v w → (f : Formula) → level (width_under f v) ≤ level (width_under f w)
width_grows v w is h = formula_induction (λ f. level (width_under f v) ≤ level (width_under f w))
    (λ n. rw (width-Fixed n v, width-Fixed n w) (omega arith))
    (λ x. rw (width-Var x v, width-Var x w) (h x))
    (λ prim kinds parts params all. rw (width-Op prim kinds parts params v, width-Op prim kinds parts params w)
    (row_grows prim kinds params (numbers_of (widths_under parts v)) (numbers_of (widths_under parts w)) (beyond v w is parts all)))
    (λ parts all. rw (width-Greatest parts v, width-Greatest parts w) (greatest_grows v w parts all))
