-- The values of expressions (FIRRTL specification 3.0, "Expressions", "References" and "Primitive Operations").
--
-- The value of an expression is a list of values, one for each leaf of its type. It is told in a scene: the types of a
-- module's components, and an integer for each of their leaves.
use Rattle.std.specs.Prelude.{ℕ, suc, max, nat_lt, Bool, List, [], ◌∷◌, ◌++◌, map, fold, zip, ℤ, pos, negsuc, Option, Some, None, option_map, if◌then◌else◌, find, ◌==◌}
use Rattle.bit_words.specs.declared.value.Kind.{Kind}
use Rattle.bit_words.specs.declared.value.Kind.TheVariants.{Unsigned, Signed}
use Rattle.bit_words.specs.declared.value.Value.{Value}
use Rattle.bit_words.specs.Values.{integer_of}
use Rattle.bit_words.specs.Numbers.{integer_of_number}
use Rattle.fir_types.specs.declared.fir_type.FirType.{FirType}
use Rattle.fir_types.specs.declared.fir_type.Shape.{Shape}
use Rattle.fir_types.specs.declared.fir_type.Shape.TheOpen.{Shape-F}
use Rattle.fir_types.specs.declared.fir_type.Shape.TheViews.{out-Shape}
use Rattle.fir_types.specs.declared.fir_type.Field.{Field}
use Rattle.fir_types.specs.declared.leaf.TypeLeaf.{TypeLeaf}
use Rattle.fir_types.specs.declared.leaf.PathStep.{PathStep}
use Rattle.fir_types.specs.declared.leaf.PathStep.TheVariants as step
use Rattle.fir_types.specs.Leaves.{leaves}
use Rattle.fir_types.specs.Bundles.{least_reaching}
pub use Rattle.prim_ops.specs.Values.{fitted, lone, operation, kind_or_unsigned}
use Rattle.prim_ops.specs.Values.{is_one as is_one_value}
use Rattle.fir_tree.specs.declared.expr.Expr.{Expr, fold-Expr}
use Rattle.fir_tree.specs.declared.expr.Form.{Form}
use Rattle.fir_tree.specs.declared.expr.Suffix.{Suffix, fold-Suffix}
use Rattle.fir_tree.specs.declared.expr.Form.TheOpen.{Form-F, Suffix-F, Expr-F}
use Rattle.fir_tree.specs.declared.expr.Form.TheViews.{out-Form}
use Rattle.fir_meaning.specs.Components.{TypedModule, kind_of_leaf, width_of_leaf, type_in, target_of}

-- An integer for each leaf of the run: by the instances that lead to its module, its component and the way to it.
abbrev pub Valuation : Type 0
Valuation = List ℕ → ℕ → List PathStep → ℤ

-- An integer for each leaf of a module.
abbrev pub Integers : Type 0
Integers = ℕ → List PathStep → ℤ

-- The types of a module's components, and an integer for each of their leaves.
pub record Scene : Type 0 where
  pub types : ℕ → FirType
  pub integers : Integers

-- the scene of these types and integers
abbrev pub scene_with : (ℕ → FirType) → Integers → Scene
scene_with types integers = record { types = types; integers = integers }

-- A leaf of an instance's port is that leaf of the port in the module of the instance.
abbrev pub seen_through : Valuation → List ℕ → ℕ → Option ℕ → List PathStep → ℤ
seen_through rho path i (Some target) (step.Field x ∷ way) = rho (path ++ i ∷ []) x way
seen_through rho path i _ way = rho path i way

-- What the module at a path sees of a valuation.
abbrev pub scene_of : TypedModule → List ℕ → Valuation → Scene
scene_of m path rho = scene_with (type_in m) (λ c way. seen_through rho path c (target_of m c) way)

-- The integer fitted to a leaf.
abbrev pub fitted_to : TypeLeaf → ℤ → Value
fitted_to leaf n = fitted (kind_of_leaf leaf) (width_of_leaf leaf) n

-- Each item of a list with the one at its place in another, and with this one where there is none. Between the leaves of a type
-- and the values of an expression of that type each has one.
abbrev pub beside : {A B : Type 0} → B → List A → List B → List (A × B)
beside other [] bs = []
beside other (a ∷ rest) [] = (a, other) ∷ beside other rest []
beside other (a ∷ rest) (b ∷ bs) = (a, b) ∷ beside other rest bs

-- A condition holds where its one value is 1.
abbrev pub is_one : List Value → Bool
is_one vs = is_one_value (lone vs)

-- The parts of types

-- the type of a bundle's first field of a name
abbrev pub field_of_shape : ℕ → Shape-F Shape Field FirType → Option FirType
field_of_shape name (Shape-F.Bundle fields) = option_map (λ f. f.typ) (find (λ f. f.name.id == name) fields)
field_of_shape name _ = None

-- the type of a vector's elements
abbrev pub element_of_shape : Shape-F Shape Field FirType → Option FirType
element_of_shape (Shape-F.Vector element n) = Some element
element_of_shape _ = None

-- how many elements a vector has
abbrev pub length_of_shape : Shape-F Shape Field FirType → ℕ
length_of_shape (Shape-F.Vector element n) = n
length_of_shape _ = 0

-- a part of a type, and the type itself where it has no such part
abbrev pub or_itself : FirType → Option FirType → FirType
or_itself typ (Some part) = part
or_itself typ None = typ

-- The type of the first field of a name, and of a vector's elements; in an accepted circuit there is one.
abbrev pub field_type : ℕ → FirType → FirType
field_type name typ = or_itself typ (field_of_shape name (out-Shape typ.shape))

abbrev pub element_type : FirType → FirType
element_type typ = or_itself typ (element_of_shape (out-Shape typ.shape))

-- How many elements a vector has.
abbrev pub vector_length : FirType → ℕ
vector_length typ = length_of_shape (out-Shape typ.shape)

-- References

-- What a reference names: a part of a component with its type, by the way to it; no way where an index is out of its vector.
pub record Spot : Type 0 where
  pub component : ℕ
  pub typ : FirType
  pub way : Option (List PathStep)

-- the way with one more step, where both are there
abbrev pub further : Option (List PathStep) → Option PathStep → Option (List PathStep)
further (Some way) (Some next) = Some (way ++ next ∷ [])
further _ _ = None

-- a part of a spot
abbrev pub part_of : Spot → FirType → Option PathStep → Spot
part_of spot typ next = record { component = spot.component; typ = typ; way = further spot.way next }

-- the step to the element of this number, where the vector has one
abbrev pub element_step : ℕ → ℤ → Option PathStep
element_step length (pos n) = if nat_lt n length then Some (step.Element n) else None
element_step length (negsuc n) = None

-- The values that stand at a spot: 0 in each leaf where an index is out of its vector.
abbrev pub values_at : Scene → Spot → Option (List PathStep) → List Value
values_at scene spot (Some way) = map (λ leaf. fitted_to leaf (scene.integers spot.component (way ++ leaf.path))) (leaves spot.typ)
values_at scene spot None = map (λ leaf. fitted_to leaf (pos 0)) (leaves spot.typ)

-- The whole of a component.
abbrev pub whole : Scene → ℕ → Spot
whole scene c = record { component = c; typ = scene.types c; way = Some [] }

-- what a reference names: the component, and then step by step
abbrev pub follow : Scene → ℕ → List (Scene → Spot → Spot) → Spot
follow scene c suffixes = fold (λ spot next. next scene spot) (whole scene c) suffixes

-- Literals

-- The least width of a literal, from 1 on, that holds its number: with a sign one more than the magnitude asks for.
abbrev pub least_width : Kind → ℤ → ℕ
least_width Unsigned (pos n) = least_reaching (suc n) 1 127
least_width Unsigned (negsuc n) = 1
least_width Signed (pos n) = suc (least_reaching (suc n) 0 127)
least_width Signed (negsuc n) = suc (least_reaching (suc n) 0 127)

-- The width of a literal: the one that it gives, or else the least one.
abbrev pub literal_width : Kind → ℤ → Option ℕ → ℕ
literal_width kind n (Some width) = width
literal_width kind n None = least_width kind n

-- Choices

-- Leaf by leaf the first or the second value, at the greater of their widths.
abbrev pub one_of_two : Bool → Value → Value → Value
one_of_two first a b = fitted a.kind (max a.width b.width) (integer_of (if first then a else b))

-- A choice takes the second operand where the first is 1, and else the third.
abbrev pub chosen : List (List Value) → List Value
chosen (condition ∷ first ∷ second ∷ []) = map (λ both. one_of_two (is_one condition) both.0 both.1) (zip first second)
chosen _ = []

-- Expressions

-- What an expression has in a scene.
abbrev pub InScene : Type 0
InScene = Scene → List Value

-- The value of each kind of expression.
abbrev pub of_form : Form-F InScene (Scene → Spot → Spot) InScene → InScene
of_form (Form-F.Ref name suffixes) scene = let spot = follow scene name.id suffixes in values_at scene spot spot.way
of_form (Form-F.Literal kind width number) scene =
    let n = integer_of_number number in
    fitted kind (literal_width kind n width) n ∷ []
of_form (Form-F.Prim prim operands params) scene = operation prim (map (λ operand. lone (operand scene)) operands) params ∷ []
of_form (Form-F.Mux operands) scene = chosen (map (λ operand. operand scene) operands)

-- `.f` goes to the first field of that name, `[3]` to that element, and `[e]` to the element that e gives.
abbrev pub of_suffix : Suffix-F InScene (Scene → Spot → Spot) InScene → Scene → Spot → Spot
of_suffix (Suffix-F.Field name) scene spot = part_of spot (field_type name.id spot.typ) (Some (step.Field name.id))
of_suffix (Suffix-F.At bracket place n) scene spot = part_of spot (element_type spot.typ) (Some (step.Element n))
of_suffix (Suffix-F.Index bracket index) scene spot =
    part_of spot (element_type spot.typ) (element_step (vector_length spot.typ) (integer_of (lone (index scene))))

-- an expression has the value of its form
abbrev pub of_expr : Expr-F InScene (Scene → Spot → Spot) InScene → InScene
of_expr e = e.form

-- The value of an expression in a scene.
abbrev pub value : Expr → Scene → List Value
value = fold-Expr InScene (Scene → Spot → Spot) InScene of_form of_suffix of_expr

-- The step of a reference, from the spot before it to the next one.
abbrev pub suffix_step : Suffix → Scene → Spot → Spot
suffix_step = fold-Suffix InScene (Scene → Spot → Spot) InScene of_form of_suffix of_expr

-- only a reference names anything
abbrev pub spot_of_form : Scene → Form-F Form Suffix Expr → Option Spot
spot_of_form scene (Form-F.Ref name suffixes) = Some (follow scene name.id (map suffix_step suffixes))
spot_of_form scene _ = None

-- What an expression names, where it is a reference.
abbrev pub spot_of : Scene → Expr → Option Spot
spot_of scene e = spot_of_form scene (out-Form e.form)
