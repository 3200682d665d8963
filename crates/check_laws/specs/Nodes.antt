-- The nodes of an expression in text order (FIRRTL specification 3.0, "Expressions", "References"), and their types.
use Rattle.std.specs.Prelude.{◌≡◌, ℕ, List, [], ◌∷◌, ◌++◌, Option}
use Rattle.bit_words.specs.declared.value.Kind.{Kind as Sign}
use Rattle.bit_words.specs.declared.number.Number.{Number}
use Rattle.place_text.specs.declared.place.Place.{Place}
use Rattle.prim_ops.specs.declared.operation.PrimOp.{PrimOp}
use Rattle.fir_types.specs.declared.fir_type.FirType.{FirType}
use Rattle.fir_types.specs.declared.name.Name.{Name}
use Rattle.fir_tree.specs.declared.expr.Expr.{Expr}
use Rattle.fir_tree.specs.declared.expr.Suffix.{Suffix}
use Rattle.fir_tree.specs.declared.expr.Form.TheVariants as form
use Rattle.fir_tree.specs.declared.expr.Suffix.TheVariants as suffix
use Rattle.fir_tree.specs.declared.part.Part.{Part}
use Rattle.fir_tree.specs.Kinds.{no_type}
use Rattle.type_check.specs.Parts.{Known}
use Rattle.check_laws.specs.Typing.{IsPart}

mutual
  -- an expression stands before the nodes of its operands, and a reference before those of its indices
  pub data NodesOf : Expr → List Expr → Type 0 where
    reference : {e : Expr} {nodes : List Expr} (name : Name) (suffixes : List Suffix) → e.form ≡ form.Ref name suffixes → NodesOnWay suffixes nodes
        → NodesOf e (e ∷ nodes)
    literal : {e : Expr} (sign : Sign) (width : Option ℕ) (number : Number) → e.form ≡ form.Literal sign width number → NodesOf e (e ∷ [])
    operation : {e : Expr} {nodes : List Expr} (op : PrimOp) (operands : List Expr) (params : List ℕ) → e.form ≡ form.Prim op operands params
        → NodesOfEach operands nodes → NodesOf e (e ∷ nodes)
    choice : {e : Expr} {nodes : List Expr} (operands : List Expr) → e.form ≡ form.Mux operands → NodesOfEach operands nodes → NodesOf e (e ∷ nodes)

  pub data NodesOfEach : List Expr → List Expr → Type 0 where
    no_operands : NodesOfEach [] []
    one_operand : {e : Expr} {es nodes others : List Expr} → NodesOf e nodes → NodesOfEach es others → NodesOfEach (e ∷ es) (nodes ++ others)

  pub data NodesOnWay : List Suffix → List Expr → Type 0 where
    no_steps : NodesOnWay [] []
    to_field : {first : Suffix} {rest : List Suffix} {others : List Expr} (name : Name) → first ≡ suffix.Field name → NodesOnWay rest others
        → NodesOnWay (first ∷ rest) others
    to_element : {first : Suffix} {rest : List Suffix} {others : List Expr} (bracket at : Place) (n : ℕ) → first ≡ suffix.At bracket at n → NodesOnWay rest others
        → NodesOnWay (first ∷ rest) others
    to_indexed : {first : Suffix} {rest : List Suffix} {nodes others : List Expr} (bracket : Place) (index : Expr) → first ≡ suffix.Index bracket index
        → NodesOf index nodes → NodesOnWay rest others → NodesOnWay (first ∷ rest) (nodes ++ others)

-- Each node that is a part has its type at its place in the list, and one that is none an empty bundle.
pub data ListTypes (known : Known) : List Expr → List FirType → Type 0 where
  no_nodes : ListTypes known [] []
  a_part : {e : Expr} {es : List Expr} {types : List FirType} (part : Part) → IsPart known e part → ListTypes known es types
      → ListTypes known (e ∷ es) (part.typ ∷ types)
  no_part : {e : Expr} {es : List Expr} {types : List FirType} → ((part : Part) → ¬ (IsPart known e part)) → ListTypes known es types
      → ListTypes known (e ∷ es) (no_type e.place ∷ types)
