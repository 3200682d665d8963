-- The nodes of expressions, and the leaves of their types (FIRRTL specification 3.0, "Expressions"). A reference is one node and one
-- more for each suffix; each of them has a type, so `v[0]` brings in the leaves of the whole `v`. An index is an expression of its
-- own.
use Rattle.std.specs.Prelude.{ℕ, ◌+◌, max, sum, List, [], ◌∷◌, map, fold}
use Rattle.fir_types.specs.declared.fir_type.FirType.{FirType}
use Rattle.fir_types.specs.declared.fir_type.Shape.TheVariants as shape
use Rattle.fir_types.specs.Bundles.{nowhere}
use Rattle.fir_types.specs.Leaves.{count}
use Rattle.fir_tree.specs.declared.expr.Expr.{Expr, fold-Expr}
use Rattle.fir_tree.specs.declared.expr.Suffix.{Suffix, fold-Suffix}
use Rattle.fir_tree.specs.declared.expr.Form.TheOpen.{Form-F, Suffix-F, Expr-F}
use Rattle.fir_meaning.specs.Values.{field_type, element_type}
use Rattle.size_check.specs.Measures.{greatest}

-- How many nodes

abbrev pub nodes_of_form : Form-F ℕ ℕ ℕ → ℕ
nodes_of_form (Form-F.Ref name suffixes) = 1 + sum suffixes
nodes_of_form (Form-F.Literal kind width number) = 1
nodes_of_form (Form-F.Prim op operands params) = 1 + sum operands
nodes_of_form (Form-F.Mux operands) = 1 + sum operands

abbrev pub nodes_of_suffix : Suffix-F ℕ ℕ ℕ → ℕ
nodes_of_suffix (Suffix-F.Field name) = 1
nodes_of_suffix (Suffix-F.At bracket place number) = 1
nodes_of_suffix (Suffix-F.Index bracket index) = 1 + index

abbrev pub nodes_of_expr : Expr-F ℕ ℕ ℕ → ℕ
nodes_of_expr e = e.form

abbrev pub nodes : Expr → ℕ
nodes = fold-Expr ℕ ℕ ℕ nodes_of_form nodes_of_suffix nodes_of_expr

abbrev pub suffix_nodes : Suffix → ℕ
suffix_nodes = fold-Suffix ℕ ℕ ℕ nodes_of_form nodes_of_suffix nodes_of_expr

-- The types of a module's components, by the numbers of their names.
abbrev pub Typing : Type 0
Typing = ℕ → FirType

-- the type of what is one leaf, and of what is nothing
abbrev pub one_bit : FirType
one_bit = record { place = nowhere; shape = shape.Reset }

abbrev pub no_type : FirType
no_type = record { place = nowhere; shape = shape.Bundle [] }

-- An expression: its type, where only the leaves are asked, and the greatest number of leaves that a node of it has.
pub record Weight : Type 0 where
  pub typ : FirType
  pub most : ℕ

abbrev pub Weighs : Type 0
Weighs = Typing → Weight

-- what a suffix leads to, from a part
abbrev pub Step : Type 0
Step = Typing → Weight → Weight

-- a part of this type, beside which an index stands
abbrev pub reach : FirType → ℕ → Weight → Weight
reach typ index before = record { typ = typ; most = max (max before.most index) (count typ) }

-- a component as a whole
abbrev pub whole : FirType → Weight
whole typ = record { typ = typ; most = count typ }

abbrev pub along : Typing → ℕ → List Step → Weight
along types name steps = fold (λ weight step. step types weight) (whole (types name)) steps

abbrev pub most_of : List Weight → ℕ
most_of weights = greatest (map (λ w. w.most) weights)

-- The result of an operation is one leaf. A choice has the type of its second operand, which is one of its nodes.
abbrev pub chosen : List Weight → FirType
chosen (condition ∷ first ∷ rest) = first.typ
chosen _ = no_type

abbrev pub of_choice : List Weight → Weight
of_choice operands = record { typ = chosen operands; most = most_of operands }

abbrev pub of_form : Form-F Weighs Step Weighs → Weighs
of_form (Form-F.Ref name suffixes) types = along types name.id suffixes
of_form (Form-F.Literal kind width number) types = whole one_bit
of_form (Form-F.Prim op operands params) types = record { typ = one_bit; most = max 1 (most_of (map (λ e. e types) operands)) }
of_form (Form-F.Mux operands) types = of_choice (map (λ e. e types) operands)

abbrev pub of_suffix : Suffix-F Weighs Step Weighs → Step
of_suffix (Suffix-F.Field name) types before = reach (field_type name.id before.typ) 0 before
of_suffix (Suffix-F.At bracket place number) types before = reach (element_type before.typ) 0 before
of_suffix (Suffix-F.Index bracket index) types before = reach (element_type before.typ) (index types).most before

abbrev pub of_expr : Expr-F Weighs Step Weighs → Weighs
of_expr e = e.form

-- an expression among components of these types
abbrev pub weight : Expr → Weighs
weight = fold-Expr Weighs Step Weighs of_form of_suffix of_expr

abbrev pub suffix_step : Suffix → Step
suffix_step = fold-Suffix Weighs Step Weighs of_form of_suffix of_expr
