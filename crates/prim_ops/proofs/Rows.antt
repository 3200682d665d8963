-- Rows of the table.
use Rattle.std.proofs.Common.{List, ◌≡◌, ℕ, ◌%◌, ◌^◌, ℤ, Some, IsSome, refl, ap, sym, ◌∙◌}
use Rattle.bit_words.specs.declared.value.Kind.{Kind}
use Rattle.bit_words.specs.declared.value.Kind.TheVariants.{Unsigned, Signed}
use Rattle.bit_words.specs.declared.value.Value.{Value}
use Rattle.bit_words.specs.Values.{integer_of, bits_of, fit_of}
use Rattle.bit_words.proofs.Congruence.{bits_back}
use Rattle.prim_ops.specs.declared.operation.PrimOp.{PrimOp}
use Rattle.prim_ops.specs.Kinds.{kind_on_one, kind_on_two, where_same, where_unsigned}
use Rattle.prim_ops.specs.Widths.{width_on_one, width_on_two}
use Rattle.prim_ops.specs.Results.{integer_on_one, integer_on_two, integer_result, IsOnOne, IsOnTwo, IsResult}

pub row_same : (a b result : Kind) → IsSome (where_same a b result) → where_same a b result ≡ Some result
row_same Unsigned Unsigned result row = refl
row_same Signed Signed result row = refl
row_same Unsigned Signed result row = cc
row_same Signed Unsigned result row = cc

pub row_unsigned : (b result : Kind) → IsSome (where_unsigned b result) → where_unsigned b result ≡ Some result
row_unsigned Unsigned result row = refl
row_unsigned Signed result row = cc

-- a result that is cut from a word
pub one : (prim : PrimOp) (x : Value) (n low : ℕ) (r : Value) (kind : Kind) (width word : ℕ) → kind_on_one prim x.kind ≡ Some kind → width ≡ width_on_one prim x.kind x.width n low
    → r.kind ≡ kind → r.width ≡ width → ((m : ℤ) → word % 2 ^ width ≡ bits_of width m → integer_of r ≡ fit_of kind width m)
    → word % 2 ^ width ≡ bits_of width (integer_on_one prim x n low) → IsOnOne prim x n low r
one prim x n low r kind width word row formula k w cutting bits = record {
  kind = row ∙ ap Some (sym k);
  width = w ∙ formula;
  integer = cutting (integer_on_one prim x n low) bits ∙ (λ j. fit_of (sym k j) (sym w j) (integer_on_one prim x n low));
}

pub two : (prim : PrimOp) (x y r : Value) (kind : Kind) (width word : ℕ) → kind_on_two prim x.kind y.kind ≡ Some kind → width ≡ width_on_two prim x.kind x.width y.width
    → r.kind ≡ kind → r.width ≡ width → ((m : ℤ) → word % 2 ^ width ≡ bits_of width m → integer_of r ≡ fit_of kind width m)
    → word % 2 ^ width ≡ bits_of width (integer_on_two prim x y) → IsOnTwo prim x y r
two prim x y r kind width word row formula k w cutting bits = record {
  kind = row ∙ ap Some (sym k);
  width = w ∙ formula;
  integer = cutting (integer_on_two prim x y) bits ∙ (λ j. fit_of (sym k j) (sym w j) (integer_on_two prim x y));
}

-- one result
pub same_kind : (prim : PrimOp) (values : List Value) (params : List ℕ) (a b : Value) → IsResult prim values params a → IsResult prim values params b → a.kind ≡ b.kind
same_kind prim values params a b x y = let e = x.kind in let f = y.kind in cc

pub same_width : (prim : PrimOp) (values : List Value) (params : List ℕ) (a b : Value) → IsResult prim values params a → IsResult prim values params b → a.width ≡ b.width
same_width prim values params a b x y = x.width ∙ sym y.width

pub same_bits : (prim : PrimOp) (values : List Value) (params : List ℕ) (a b : Value) → IsResult prim values params a → IsResult prim values params b → a.bits ≡ b.bits
same_bits prim values params a b x y =
    let k = same_kind prim values params a b x y in
    let w = same_width prim values params a b x y in
    let n = integer_result prim values params in
    let same : integer_of a ≡ integer_of b = x.integer ∙ (λ j. fit_of (k j) (w j) n) ∙ sym y.integer in
    sym (bits_back a.kind a.width a.bits a.within) ∙ (λ j. bits_of (w j) (same j)) ∙ bits_back b.kind b.width b.bits b.within
