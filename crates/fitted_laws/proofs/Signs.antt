-- Kinds of ground types, as the type check answers them.
use Rattle.std.proofs.Common.{◌≡◌, ℕ, Bool, false, ◌&&◌, if◌then◌else◌, Option, List, refl, sym, ap, ◌∙◌, subst, arith}
use Rattle.std.specs.Prelude.{true, Some, None}
use Rattle.std.proofs.lemmas.Grind.{common_steps}
use Rattle.bit_words.specs.declared.value.Kind.{Kind as Sign}
use Rattle.bit_words.specs.declared.value.Kind.TheVariants.{Unsigned, Signed}
use Rattle.fir_types.specs.declared.fir_type.FirType.{FirType, the_lemmas}
use Rattle.fir_types.specs.declared.fir_type.Shape.TheVariants as shape
use Rattle.fir_types.specs.declared.fir_type.Field.{Field}
use Rattle.fir_types.specs.Equivalence.{IsUnsigned, IsSigned, a_uint, a_reset, a_sint}
use Rattle.fir_tree.proofs.Shapes.{ShapeCase, shape_uint, shape_sint, shape_clock, shape_reset, shape_async, shape_bundle, shape_vector, case_of}
use Rattle.fir_tree.specs.Kinds.{sign_of, sign_or_unsigned, is_unsigned, is_async}
use Rattle.prim_ops.specs.declared.operation.PrimOp.{PrimOp}
use Rattle.type_check.specs.Expressions.{takes_async, sign_for}

pub unsigned_is : (t : FirType) → is_unsigned t ≡ true → IsUnsigned t
unsigned_is t y = by (case_of t.shape) where
  by : ShapeCase t.shape → IsUnsigned t
  by (shape_uint w e) = a_uint w e
  by (shape_reset e) = a_reset e
  by (shape_async e) = absurd (grind (arith, common_steps, the_lemmas))
  by (shape_sint w e) = absurd (grind (arith, common_steps, the_lemmas))
  by (shape_clock e) = absurd (grind (arith, common_steps, the_lemmas))
  by (shape_bundle fs e) = absurd (grind (arith, common_steps, the_lemmas))
  by (shape_vector o n e) = absurd (grind (arith, common_steps, the_lemmas))

-- a type with a kind is a number
pub data IsNumberType (t : FirType) : Sign → Type 0 where
  a_natural : IsUnsigned t → IsNumberType t Unsigned
  an_integer : IsSigned t → IsNumberType t Signed

sign-uint : (t : FirType) (w : Option ℕ) → t.shape ≡ shape.Unsigned w → sign_of t ≡ Some Unsigned
sign-uint t w e = grind (arith, common_steps, the_lemmas)

sign-sint : (t : FirType) (w : Option ℕ) → t.shape ≡ shape.Signed w → sign_of t ≡ Some Signed
sign-sint t w e = grind (arith, common_steps, the_lemmas)

sign-reset : (t : FirType) → t.shape ≡ shape.Reset → sign_of t ≡ Some Unsigned
sign-reset t e = grind (arith, common_steps, the_lemmas)

pub sign-async : (t : FirType) → t.shape ≡ shape.AsyncReset → sign_of t ≡ None
sign-async t e = grind (arith, common_steps, the_lemmas)

sign-clock : (t : FirType) → t.shape ≡ shape.Clock → sign_of t ≡ None
sign-clock t e = grind (arith, common_steps, the_lemmas)

sign-bundle : (t : FirType) (fs : List Field) → t.shape ≡ shape.Bundle fs → sign_of t ≡ None
sign-bundle t fs e = grind (arith, common_steps, the_lemmas)

sign-vector : (t o : FirType) (n : ℕ) → t.shape ≡ shape.Vector o n → sign_of t ≡ None
sign-vector t o n e = grind (arith, common_steps, the_lemmas)

same_sign : {x y : Sign} → Some x ≡ Some y → x ≡ y
same_sign e = cc

pub number_is : (t : FirType) (k : Sign) → sign_of t ≡ Some k → IsNumberType t k
number_is t k y = by (case_of t.shape) where
  by : ShapeCase t.shape → IsNumberType t k
  by (shape_uint w e) = subst (IsNumberType t) (same_sign (sym (sign-uint t w e) ∙ y)) (a_natural (a_uint w e))
  by (shape_reset e) = subst (IsNumberType t) (same_sign (sym (sign-reset t e) ∙ y)) (a_natural (a_reset e))
  by (shape_async e) = absurd (let f = sym (sign-async t e) ∙ y in cc)
  by (shape_sint w e) = subst (IsNumberType t) (same_sign (sym (sign-sint t w e) ∙ y)) (an_integer (a_sint w e))
  by (shape_clock e) = absurd (let f = sym (sign-clock t e) ∙ y in cc)
  by (shape_bundle fs e) = absurd (let f = sym (sign-bundle t fs e) ∙ y in cc)
  by (shape_vector o n e) = absurd (let f = sym (sign-vector t o n e) ∙ y in cc)

pub async_is : (t : FirType) → is_async t ≡ true → t.shape ≡ shape.AsyncReset
async_is t y = by (case_of t.shape) where
  by : ShapeCase t.shape → t.shape ≡ shape.AsyncReset
  by (shape_async e) = e
  by (shape_uint w e) = absurd (grind (arith, common_steps, the_lemmas))
  by (shape_reset e) = absurd (grind (arith, common_steps, the_lemmas))
  by (shape_sint w e) = absurd (grind (arith, common_steps, the_lemmas))
  by (shape_clock e) = absurd (grind (arith, common_steps, the_lemmas))
  by (shape_bundle fs e) = absurd (grind (arith, common_steps, the_lemmas))
  by (shape_vector o n e) = absurd (grind (arith, common_steps, the_lemmas))

-- what an operation takes as an operand of a kind: a number, or an AsyncReset as a UInt
pub data TakesType (t : FirType) : Sign → Type 0 where
  a_number : {k : Sign} → IsNumberType t k → TakesType t k
  an_async : t.shape ≡ shape.AsyncReset → TakesType t Unsigned

pub takes_type : (op : PrimOp) (t : FirType) (k : Sign) → sign_for op t ≡ Some k → TakesType t k
takes_type op t k y = by (takes_async op) (is_async t) refl y where
  by : (a b : Bool) → is_async t ≡ b → (if a && b then Some Unsigned else sign_of t) ≡ Some k → TakesType t k
  by true true q e = subst (TakesType t) (same_sign e) (an_async (async_is t q))
  by true false q e = a_number (number_is t k e)
  by false true q e = a_number (number_is t k e)
  by false false q e = a_number (number_is t k e)

number_sign : (t : FirType) (k : Sign) → IsNumberType t k → sign_of t ≡ Some k
number_sign t Unsigned (a_natural (a_uint w e)) = sign-uint t w e
number_sign t Unsigned (a_natural (a_reset e)) = sign-reset t e
number_sign t Signed (an_integer (a_sint w e)) = sign-sint t w e

-- the rules take an AsyncReset as a UInt
pub kind_taken : (t : FirType) (k : Sign) → TakesType t k → sign_or_unsigned (sign_of t) ≡ k
kind_taken t k (a_number n) = ap sign_or_unsigned (number_sign t k n)
kind_taken t Unsigned (an_async e) = ap sign_or_unsigned (sign-async t e)
