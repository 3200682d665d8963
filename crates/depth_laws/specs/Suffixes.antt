-- How many suffixes one reference or one type of a text has at most (FIRRTL specification 3.0, "Types", "Expressions"): the `.f`, `[3]`
-- and `[e]` behind the name of a component, and the lengths `[n]` behind a type that is no vector. An index is a reference of its own,
-- and so is the type of a field a type of its own.
use Rattle.std.specs.Prelude.{ℕ, ◌+◌, max, List, length}
use Rattle.fir_types.specs.declared.fir_type.FirType.{FirType, fold-FirType}
use Rattle.fir_types.specs.declared.fir_type.Shape.TheOpen.{Shape-F, Field-F}
use Rattle.fir_types.specs.declared.fir_type.Field.{Field, fold-Field}
use Rattle.fir_tree.specs.declared.expr.Expr.{Expr, fold-Expr}
use Rattle.fir_tree.specs.declared.expr.Suffix.{Suffix, fold-Suffix}
use Rattle.fir_tree.specs.declared.expr.Form.TheOpen.{Form-F, Suffix-F}
use Rattle.item_lines.specs.declared.line.LineModule.{LineModule}
use Rattle.depth_laws.specs.Blocks.{greatest}
use Rattle.depth_laws.specs.Parts.{most_in_text}

-- of a type: its own lengths, and the most that a type of a field within it has
abbrev pub lengths_of_shape : Shape-F (ℕ × ℕ) ℕ (ℕ × ℕ) → ℕ × ℕ
lengths_of_shape (Shape-F.Unsigned width) = (0, 0)
lengths_of_shape (Shape-F.Signed width) = (0, 0)
lengths_of_shape Shape-F.Clock = (0, 0)
lengths_of_shape Shape-F.Reset = (0, 0)
lengths_of_shape Shape-F.AsyncReset = (0, 0)
lengths_of_shape (Shape-F.Bundle fields) = (0, greatest fields)
lengths_of_shape (Shape-F.Vector element n) = (element.0 + 1, element.1)

abbrev pub lengths_of_field : Field-F (ℕ × ℕ) ℕ (ℕ × ℕ) → ℕ
lengths_of_field f = max f.typ.0 f.typ.1

abbrev pub type_lengths : FirType → ℕ × ℕ
type_lengths = fold-FirType (ℕ × ℕ) ℕ (ℕ × ℕ) lengths_of_shape lengths_of_field (λ t. t.shape)

abbrev pub type_suffixes : FirType → ℕ
type_suffixes typ = max (type_lengths typ).0 (type_lengths typ).1

abbrev pub field_suffixes : Field → ℕ
field_suffixes = fold-Field (ℕ × ℕ) ℕ (ℕ × ℕ) lengths_of_shape lengths_of_field (λ t. t.shape)

abbrev pub suffixes_of_form : Form-F ℕ ℕ ℕ → ℕ
suffixes_of_form (Form-F.Ref name suffixes) = max (length suffixes) (greatest suffixes)
suffixes_of_form (Form-F.Literal kind width number) = 0
suffixes_of_form (Form-F.Prim op operands parameters) = greatest operands
suffixes_of_form (Form-F.Mux operands) = greatest operands

abbrev pub suffixes_of_suffix : Suffix-F ℕ ℕ ℕ → ℕ
suffixes_of_suffix (Suffix-F.Field name) = 0
suffixes_of_suffix (Suffix-F.At bracket place number) = 0
suffixes_of_suffix (Suffix-F.Index bracket index) = index

abbrev pub expr_suffixes : Expr → ℕ
expr_suffixes = fold-Expr ℕ ℕ ℕ suffixes_of_form suffixes_of_suffix (λ e. e.form)

abbrev pub suffix_suffixes : Suffix → ℕ
suffix_suffixes = fold-Suffix ℕ ℕ ℕ suffixes_of_form suffixes_of_suffix (λ e. e.form)

abbrev pub text_suffixes : List LineModule → ℕ
text_suffixes = most_in_text type_suffixes expr_suffixes
