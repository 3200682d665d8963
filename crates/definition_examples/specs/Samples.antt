-- Short ways to write circuits as values, for the examples. Places don't matter.
use Rattle.std.specs.Prelude.{ℕ, true, false, List, [], Some}
use Rattle.place_text.specs.declared.place.Place.{Place}
use Rattle.bit_words.specs.declared.value.Kind.TheVariants.{Unsigned}
use Rattle.fir_types.specs.declared.name.Name.{Name}
use Rattle.fir_types.specs.declared.fir_type.FirType.{FirType}
use Rattle.fir_types.specs.declared.fir_type.Shape.{Shape}
use Rattle.fir_types.specs.declared.fir_type.Shape.TheVariants as shape
use Rattle.fir_types.specs.declared.fir_type.Field.{Field}
use Rattle.fir_types.specs.declared.leaf.PathStep.{PathStep}
use Rattle.fir_types.specs.declared.leaf.TypeLeaf.{TypeLeaf}
use Rattle.fir_tree.specs.declared.expr.Expr.{Expr}
use Rattle.fir_tree.specs.declared.expr.Form.{Form}
use Rattle.fir_tree.specs.declared.expr.Form.TheVariants as form
use Rattle.fir_tree.specs.declared.expr.Suffix.{Suffix}
use Rattle.fir_tree.specs.declared.expr.Suffix.TheVariants as suffix
use Rattle.fir_tree.specs.declared.stmt.Stmt.{Stmt}
use Rattle.fir_tree.specs.declared.stmt.Stmt.TheVariants as stmt
use Rattle.fir_tree.specs.declared.stmt.Arm.{Arm}
use Rattle.fir_meaning.specs.Components.{Component, Leaf, Sort}

abbrev pub place : Place
place = record { line = 1; column = 1 }

abbrev pub name : ℕ → Name
name id = record { id = id; place = place }

-- types

abbrev pub typ : Shape → FirType
typ s = record { place = place; shape = s }

abbrev pub uint : ℕ → FirType
uint width = typ (shape.Unsigned (Some width))

abbrev pub clock_type : FirType
clock_type = typ shape.Clock

abbrev pub vector : FirType → ℕ → FirType
vector element length = typ (shape.Vector element length)

abbrev pub bundle : List Field → FirType
bundle fields = typ (shape.Bundle fields)

abbrev pub plain : ℕ → FirType → Field
plain id t = record { flip = false; name = name id; typ = t }

abbrev pub flipped : ℕ → FirType → Field
flipped id t = record { flip = true; name = name id; typ = t }

-- a ground type as its own one leaf
abbrev pub whole_leaf : FirType → TypeLeaf
whole_leaf t = record { path = []; flip = false; typ = t }

-- expressions

abbrev pub expr : Form → Expr
expr f = record { place = place; form = f }

abbrev pub ref : ℕ → Expr
ref id = expr (form.Ref (name id) [])

abbrev pub part : ℕ → List Suffix → Expr
part id suffixes = expr (form.Ref (name id) suffixes)

abbrev pub dot : ℕ → Suffix
dot id = suffix.Field (name id)

abbrev pub index : Expr → Suffix
index e = suffix.Index place e

abbrev pub literal : ℕ → ℕ → Expr
literal width n = expr (form.Literal Unsigned (Some width) (record { negative = false; magnitude = n }))

abbrev pub mux : List Expr → Expr
mux operands = expr (form.Mux operands)

-- statements

abbrev pub connect : Expr → Expr → Stmt
connect left right = stmt.Connect left right

abbrev pub arm : Expr → List Stmt → Arm
arm condition body = record { condition = condition; body = body }

abbrev pub leaf : ℕ → List PathStep → Leaf
leaf c way = record { component = c; way = way }

-- a component, with the statements of its block and those behind it
abbrev pub component : ℕ → Sort → FirType → List Stmt → List Stmt → Component
component id sort t block behind = record { declaration = record { name = id; place = place; sort = sort; block = block; behind = behind }; typ = t }
