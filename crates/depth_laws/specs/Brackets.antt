-- How many brackets of a text are around one another (FIRRTL specification 3.0, "Types", "Expressions"): the `{` of a bundle, the `[` of a
-- vector's length, of an element and of an index, and the `(` of a literal, of an operation and of a `mux`. The `<` of a width is no
-- bracket, and that of a `printf` or `stop` isn't counted. A length stands behind its type and not around it, and so does a suffix.
use Rattle.std.specs.Prelude.{ℕ, ◌+◌, max, List}
use Rattle.fir_types.specs.declared.fir_type.FirType.{FirType, fold-FirType}
use Rattle.fir_types.specs.declared.fir_type.Shape.TheOpen.{Shape-F}
use Rattle.fir_types.specs.declared.fir_type.Field.{Field, fold-Field}
use Rattle.fir_tree.specs.declared.expr.Expr.{Expr, fold-Expr}
use Rattle.fir_tree.specs.declared.expr.Suffix.{Suffix, fold-Suffix}
use Rattle.fir_tree.specs.declared.expr.Form.TheOpen.{Form-F, Suffix-F}
use Rattle.item_lines.specs.declared.line.LineModule.{LineModule}
use Rattle.depth_laws.specs.Blocks.{greatest}
use Rattle.depth_laws.specs.Parts.{most_in_text}

abbrev pub brackets_of_shape : Shape-F ℕ ℕ ℕ → ℕ
brackets_of_shape (Shape-F.Unsigned width) = 0
brackets_of_shape (Shape-F.Signed width) = 0
brackets_of_shape Shape-F.Clock = 0
brackets_of_shape Shape-F.Reset = 0
brackets_of_shape Shape-F.AsyncReset = 0
brackets_of_shape (Shape-F.Bundle fields) = greatest fields + 1
brackets_of_shape (Shape-F.Vector element length) = max element 1

abbrev pub type_brackets : FirType → ℕ
type_brackets = fold-FirType ℕ ℕ ℕ brackets_of_shape (λ f. f.typ) (λ t. t.shape)

abbrev pub field_brackets : Field → ℕ
field_brackets = fold-Field ℕ ℕ ℕ brackets_of_shape (λ f. f.typ) (λ t. t.shape)

abbrev pub brackets_of_form : Form-F ℕ ℕ ℕ → ℕ
brackets_of_form (Form-F.Ref name suffixes) = greatest suffixes
brackets_of_form (Form-F.Literal kind width number) = 1
brackets_of_form (Form-F.Prim op operands parameters) = greatest operands + 1
brackets_of_form (Form-F.Mux operands) = greatest operands + 1

abbrev pub brackets_of_suffix : Suffix-F ℕ ℕ ℕ → ℕ
brackets_of_suffix (Suffix-F.Field name) = 0
brackets_of_suffix (Suffix-F.At bracket place number) = 1
brackets_of_suffix (Suffix-F.Index bracket index) = index + 1

abbrev pub expr_brackets : Expr → ℕ
expr_brackets = fold-Expr ℕ ℕ ℕ brackets_of_form brackets_of_suffix (λ e. e.form)

abbrev pub suffix_brackets : Suffix → ℕ
suffix_brackets = fold-Suffix ℕ ℕ ℕ brackets_of_form brackets_of_suffix (λ e. e.form)

abbrev pub text_brackets : List LineModule → ℕ
text_brackets = most_in_text type_brackets expr_brackets
