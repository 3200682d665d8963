-- What expressions mention (FIRRTL specification 3.0, "References" and "Expressions"), leaf by leaf, whatever the values are:
-- an index over a vector may lead to each of its elements.
use Rattle.std.specs.Prelude.{◌≡◌, ℕ, Contains, ◌++◌, Bool, true, false, List, [], ◌∷◌, map, fold, flat_map, zip, Option, Some, None}
use Rattle.std.specs.List.{range_with_len}
use Rattle.fir_types.specs.declared.fir_type.FirType.{FirType}
use Rattle.fir_types.specs.declared.leaf.PathStep.{PathStep}
use Rattle.fir_types.specs.declared.leaf.PathStep.TheVariants as step
use Rattle.fir_types.specs.Leaves.{leaves}
use Rattle.fir_tree.specs.declared.expr.Expr.{Expr, fold-Expr}
use Rattle.fir_tree.specs.declared.expr.Form.{Form}
use Rattle.fir_tree.specs.declared.expr.Suffix.{Suffix, fold-Suffix}
use Rattle.fir_tree.specs.declared.expr.Form.TheOpen.{Form-F, Suffix-F, Expr-F}
use Rattle.fir_tree.specs.declared.expr.Form.TheViews.{out-Form}
use Rattle.fir_meaning.specs.Components.{Leaf}
use Rattle.fir_meaning.specs.Values.{Integers, field_type, element_type, vector_length}

-- The types of a module's components.
abbrev pub Scope : Type 0
Scope = ℕ → FirType

-- What a reference may name: parts of a component that have one type, by the ways to them; whether there is a dynamic index
-- on the way; and the leaves that such indices mention.
pub record Region : Type 0 where
  pub component : ℕ
  pub typ : FirType
  pub ways : List (List PathStep)
  pub dynamic : Bool
  pub indices : List Leaf

-- all of the lists, one after the other
abbrev pub joined : List (List Leaf) → List Leaf
joined = flat_map (λ leaves. leaves)

-- A list for each leaf of an expression: the leaves that it mentions.
abbrev pub InScope : Type 0
InScope = Scope → List (List Leaf)

-- A step of a reference: from what it may name before the step to what it may name behind it.
abbrev pub Onward : Type 0
Onward = Scope → Region → Region

-- a component as a whole
abbrev pub whole_region : Scope → ℕ → Region
whole_region types c = record { component = c; typ = types c; ways = [] ∷ []; dynamic = false; indices = [] }

-- what a reference may name: the component, and then step by step
abbrev pub follow_all : Scope → ℕ → List Onward → Region
follow_all types c suffixes = fold (λ region next. next types region) (whole_region types c) suffixes

-- the leaves that the part's leaf at this way may be
abbrev pub leaves_at : Region → List PathStep → List Leaf
leaves_at region path = map (λ way. record { component = region.component; way = way ++ path }) region.ways

-- A choice mentions the condition and, leaf by leaf, what both others do.
abbrev pub of_choice : List (List (List Leaf)) → List (List Leaf)
of_choice (condition ∷ first ∷ second ∷ []) = map (λ both. joined condition ++ (both.0 ++ both.1)) (zip first second)
of_choice _ = []

-- What each kind of expression mentions: a reference for each leaf the indices and the leaves that it may be, an operation all that
-- its operands do.
abbrev pub of_form : Form-F InScope Onward InScope → InScope
of_form (Form-F.Ref name suffixes) types = let region = follow_all types name.id suffixes in map (λ leaf. region.indices ++ leaves_at region leaf.path) (leaves region.typ)
of_form (Form-F.Literal kind width number) types = [] ∷ []
of_form (Form-F.Prim prim operands params) types = flat_map (λ operand. joined (operand types)) operands ∷ []
of_form (Form-F.Mux operands) types = of_choice (map (λ operand. operand types) operands)

-- each of the ways, with the step behind it
abbrev pub behind_each : List (List PathStep) → PathStep → List (List PathStep)
behind_each ways next = map (λ way. way ++ next ∷ []) ways

-- each of the ways, with each element of the vector behind it
abbrev pub elements_behind : List (List PathStep) → ℕ → List (List PathStep)
elements_behind ways length = flat_map (λ n. behind_each ways (step.Element n)) (range_with_len 0 length)

-- What each kind of step may lead to.
abbrev pub of_suffix : Suffix-F InScope Onward InScope → Onward
of_suffix (Suffix-F.Field name) types region = record region { typ = field_type name.id region.typ; ways = behind_each region.ways (step.Field name.id) }
of_suffix (Suffix-F.At bracket place n) types region = record region { typ = element_type region.typ; ways = behind_each region.ways (step.Element n) }
of_suffix (Suffix-F.Index bracket index) types region = record region {
  typ = element_type region.typ;
  ways = elements_behind region.ways (vector_length region.typ);
  dynamic = true;
  indices = region.indices ++ joined (index types);
}

-- an expression mentions what its form does
abbrev pub of_expr : Expr-F InScope Onward InScope → InScope
of_expr e = e.form

-- What each leaf of an expression mentions.
abbrev pub mentions : Expr → InScope
mentions = fold-Expr InScope Onward InScope of_form of_suffix of_expr

-- What a step of a reference may lead to.
abbrev pub suffix_onward : Suffix → Onward
suffix_onward = fold-Suffix InScope Onward InScope of_form of_suffix of_expr

-- only a reference names anything
abbrev pub region_of_form : Scope → Form-F Form Suffix Expr → Option Region
region_of_form types (Form-F.Ref name suffixes) = Some (follow_all types name.id (map suffix_onward suffixes))
region_of_form types _ = None

-- What an expression may name, where it is a reference.
abbrev pub region_of : Scope → Expr → Option Region
region_of types e = region_of_form types (out-Form e.form)

-- Two integers for each leaf, which are the same for these leaves.
pub record Agree (f g : Integers) (leaves : List Leaf) : Type 0 where
  pub agree : (y : Leaf) → Contains leaves y → f y.component y.way ≡ g y.component y.way
