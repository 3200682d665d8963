-- Values, fitted values, and results of operations.
use Rattle.std.proofs.Common.{◌≡◌, ℕ, ◌<◌, ◌≤◌, ◌^◌, min, List, ℤ, subst, refl, sym, ap, ◌∙◌, arith}
use native.Mathlib.Bridge.{le_prop}
use Rattle.bit_words.specs.declared.value.Kind.{Kind}
use Rattle.bit_words.specs.declared.value.Value.{Value}
use Rattle.bit_words.specs.Values.{integer_of, bits_of, fit_of, InRange}
use Rattle.bit_words.proofs.Congruence.{bits_back, bits_below, integer_in_range, fit_same}
use Rattle.prim_ops.specs.declared.operation.PrimOp.{PrimOp}
use Rattle.prim_ops.specs.Widths.{width_number}
use Rattle.prim_ops.specs.Results.{integer_result, kinds_of, widths_of, IsResult}
use Rattle.prim_ops.specs.Values.{fitted, operation, kind_or_unsigned}

abbrev made : (kind : Kind) (width bits : ℕ) → width ≤ 128 → bits < 2 ^ width → Value
made kind width bits n i = record { kind = kind; width = width; bits = bits; narrow = n; within = i }

plain : (kind : Kind) (width bits : ℕ) (n o : width ≤ 128) (i j : bits < 2 ^ width) → made kind width bits n i ≡ made kind width bits o j
plain kind width bits n o i j = ap (λ x. made kind width bits x i) (le_prop n o) ∙ ap (λ x. made kind width bits o x) (le_prop i j)

by_bits : (kind : Kind) (width bits c : ℕ) (n o : width ≤ 128) (i : bits < 2 ^ width) (j : c < 2 ^ width) → bits ≡ c → made kind width bits n i ≡ made kind width c o j
by_bits kind width bits c n o i j e = subst (λ x. (k : x < 2 ^ width) → made kind width bits n i ≡ made kind width x o k) e (λ k. plain kind width bits n o i k) j

by_width : (kind : Kind) (width v bits c : ℕ) (n : width ≤ 128) (o : v ≤ 128) (i : bits < 2 ^ width) (j : c < 2 ^ v) → width ≡ v → bits ≡ c → made kind width bits n i ≡ made kind v c o j
by_width kind width v bits c n o i j w e =
    subst (λ x. (p : x ≤ 128) (k : c < 2 ^ x) → made kind width bits n i ≡ made kind x c p k) w (λ p k. by_bits kind width bits c n p i k e) o j

-- values of one kind and width with the same bits are the same
pub same_value : (v w : Value) → v.kind ≡ w.kind → v.width ≡ w.width → v.bits ≡ w.bits → v ≡ w
same_value v w k l e =
    subst (λ x. v ≡ made x w.width w.bits w.narrow w.within) k (by_width v.kind v.width w.width v.bits w.bits v.narrow w.narrow v.within w.within l e)

pub min_small : (w : ℕ) → w ≤ 128 → w ≡ min w 128
min_small w h = omega arith

-- a value fitted to its own kind and width is itself
pub refitted : (v : Value) → fitted v.kind v.width (integer_of v) ≡ v
refitted v =
    let narrow : v.width ≤ 128 = v.narrow in
    let w : v.width ≡ min v.width 128 = min_small v.width narrow in
    same_value (fitted v.kind v.width (integer_of v)) v refl (sym w) (ap (λ x. bits_of x (integer_of v)) (sym w) ∙ bits_back v.kind v.width v.bits v.within)

-- the integer of a fitted value
pub fitted_integer : (kind : Kind) (width : ℕ) (n : ℤ) → width ≤ 128 → integer_of (fitted kind width n) ≡ fit_of kind width n
fitted_integer kind width n h = ap (λ w. fit_of kind w n) (sym (min_small width h))

-- an integer in range is that of the value that it is fitted to
pub fitted_same : (kind : Kind) (width : ℕ) (n : ℤ) → width ≤ 128 → InRange kind width n → integer_of (fitted kind width n) ≡ n
fitted_same kind width n h r = fitted_integer kind width n h ∙ fit_same kind width n r

-- the integer of a value is in range
pub value_in_range : (v : Value) → InRange v.kind v.width (integer_of v)
value_in_range v = integer_in_range v.kind v.width v.bits v.within

-- a result is the operation's value
pub result_is : (prim : PrimOp) (values : List Value) (params : List ℕ) (r : Value) → IsResult prim values params r → r ≡ operation prim values params
result_is prim values params r h =
    let n = integer_result prim values params in
    let small : r.width ≤ 128 = r.narrow in
    let w : r.width ≡ min (width_number prim (kinds_of values) (widths_of values) params) 128 = min_small r.width small ∙ ap (λ x. min x 128) h.width in
    let bits : r.bits ≡ bits_of r.width n =
    sym (bits_back r.kind r.width r.bits r.within) ∙ ap (bits_of r.width) h.integer ∙ bits_back r.kind r.width (bits_of r.width n) (bits_below r.width n) in
    same_value r (operation prim values params) (sym (ap kind_or_unsigned h.kind)) w (bits ∙ ap (λ x. bits_of x n) w)
