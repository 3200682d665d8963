-- Values of a cycle (FIRRTL specification 3.0, "Primitive Operations" and "Conditionals").
use Rattle.std.specs.Prelude.{ℕ, min, Bool, List, [], ◌∷◌, ℤ, pos, Option, Some, None}
use Rattle.std.specs.Ordering.{int_eq}
use Rattle.std.proofs.Math.Nat.{min-le_right}
use Rattle.bit_words.specs.declared.value.Kind.{Kind}
use Rattle.bit_words.specs.declared.value.Kind.TheVariants.{Unsigned}
use Rattle.bit_words.specs.declared.value.Value.{Value}
use Rattle.bit_words.specs.Values.{bits_of, integer_of}
use Rattle.bit_words.proofs.Congruence.{bits_below}
use Rattle.prim_ops.specs.declared.operation.PrimOp.{PrimOp}
use Rattle.prim_ops.specs.Kinds.{row_kind}
use Rattle.prim_ops.specs.Widths.{width_number}
use Rattle.prim_ops.specs.Results.{integer_result, kinds_of, widths_of}

-- The value of a kind and a width that an integer is fitted to. No width of an accepted circuit is over 128.
abbrev pub fitted : Kind → ℕ → ℤ → Value
fitted kind width n = record {
  kind = kind;
  width = min width 128;
  bits = bits_of (min width 128) n;
  narrow = min-le_right width 128;
  within = bits_below (min width 128) n;
}

-- The one value of a list, and 0 of no bits where there is none.
abbrev pub lone : List Value → Value
lone [] = fitted Unsigned 0 (pos 0)
lone (v ∷ vs) = v

-- A condition holds where its value is 1.
abbrev pub is_one : Value → Bool
is_one v = int_eq (integer_of v) (pos 1)

-- the kind of a row of the table; operands of an accepted circuit have a row
abbrev pub kind_or_unsigned : Option Kind → Kind
kind_or_unsigned (Some kind) = kind
kind_or_unsigned None = Unsigned

-- The table's integer, fitted to the table's kind and width.
abbrev pub operation : PrimOp → List Value → List ℕ → Value
operation prim operands params =
    fitted (kind_or_unsigned (row_kind prim (kinds_of operands))) (width_number prim (kinds_of operands) (widths_of operands) params)
    (integer_result prim operands params)
