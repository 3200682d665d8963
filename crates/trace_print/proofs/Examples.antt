-- The lines of a trace, and the listing of a small circuit.
use Rattle.std.proofs.Common.{◌≡◌, ℕ, Bool, true, false, [], ◌∷◌, zip, codes, Some, refl, ap, ◌∙◌, arith, lit≤, lit<}
use Rattle.std.specs.Fmt.{digits}
use Rattle.std.specs.List.{flat_map}
use Rattle.std.proofs.lemmas.Grind.{common_steps}
use Rattle.place_text.specs.declared.place.Place.{Place}
use Rattle.bit_words.specs.declared.value.Value.{Value}
use Rattle.bit_words.specs.declared.value.Kind.TheVariants.{Unsigned, Signed}
use Rattle.fir_types.specs.declared.name.Name.{Name}
use Rattle.fir_types.specs.declared.fir_type.FirType.{FirType, the_lemmas as type_lemmas}
use Rattle.fir_types.specs.declared.fir_type.Shape.{Shape}
use Rattle.fir_types.specs.declared.fir_type.Shape.TheVariants as shape
use Rattle.fir_types.specs.declared.fir_type.Field.{Field}
use Rattle.fir_types.specs.declared.leaf.PathStep.TheVariants as step
use Rattle.fir_types.specs.declared.port.Port.{Port}
use Rattle.fir_types.specs.Leaves.{leaves}
use Rattle.fir_tree.specs.declared.circuit.Circuit.{Circuit}
use Rattle.fir_tree.specs.declared.circuit.Module.{Module}
use Rattle.fir_tree.specs.declared.expr.Expr.{Expr}
use Rattle.fir_tree.specs.declared.scope.Fitted.{Fitted}
use Rattle.fir_tree.specs.declared.stmt.Stmt.{the_lemmas as stmt_lemmas}
use Rattle.fir_tree.specs.declared.stmt.Stmt.TheVariants as stmt
use Rattle.trace_print.specs.declared.component.Component.{Component}
use Rattle.trace_print.specs.Trace.{header_of, trace_line_of}
use Rattle.trace_print.specs.Components.{stmt_declared, components_of}
use Rattle.fir_tree.specs.LeafNames.{Texts}
use Rattle.trace_print.specs.Listing.{shape_line, component_lines, listing_of}

-- a header

two_names : header_of (codes "io.outputGCD" ∷ codes "io.outputValid" ∷ []) ≡ codes "cycle io.outputGCD io.outputValid\n"
two_names = refl

no_names : header_of [] ≡ codes "cycle\n"
no_names = refl

-- a line of cycle 3 with the unsigned 4 and the signed -7, whose four bits are those of 9

abbrev four : Value
four = record { kind = Unsigned; width = 16; bits = 4; narrow = lit≤ tt; within = lit< tt }

abbrev minus_seven : Value
minus_seven = record { kind = Signed; width = 4; bits = 9; narrow = lit≤ tt; within = lit< tt }

a_line : trace_line_of 3 (four ∷ minus_seven ∷ []) ≡ codes "3 4 -7\n"
unfolding digits
a_line = refl

a_line_without_values : trace_line_of 0 [] ≡ codes "0\n"
unfolding digits
a_line_without_values = refl

-- a listing

abbrev place : Place
place = record { line = 1; column = 1 }

abbrev name : ℕ → Name
name id = record { id = id; place = place }

abbrev typ : Shape → FirType
typ s = record { place = place; shape = s }

abbrev field : Bool → ℕ → FirType → Field
field flip id t = record { flip = flip; name = name id; typ = t }

abbrev port : Bool → ℕ → FirType → Port
port output id t = record { output = output; name = name id; typ = t }

abbrev texts : Texts
texts = codes "C" ∷ codes "M" ∷ codes "D" ∷ codes "clk" ∷ codes "io" ∷ codes "v" ∷ codes "x" ∷ codes "i" ∷ codes "w" ∷ []

-- { v : { x : UInt<3> }[2] }
abbrev bundle : FirType
bundle = typ (shape.Bundle (field false 5 (typ (shape.Vector (typ (shape.Bundle (field false 6 (typ (shape.Unsigned (Some 3))) ∷ []))) 2)) ∷ []))

-- { flip clk : Clock, io : { v : { x : UInt<3> }[2] } }
abbrev instance : FirType
instance = typ (shape.Bundle (field true 3 (typ shape.Clock) ∷ field false 4 bundle ∷ []))

--   module C :
--     input clk : Clock
--     output io : { v : { x : UInt<3> }[2] }
abbrev child : Module
child = record { name = name 0; ports = port false 3 (typ shape.Clock) ∷ port true 4 bundle ∷ []; body = [] }

--   module M :
--     inst i of C
--     wire w : SInt
abbrev main : Module
main = record { name = name 1; ports = []; body = stmt.Inst (name 7) (name 0) ∷ stmt.Wire (name 8) (typ (shape.Signed (Some 4))) ∷ [] }

--   module D :
--     input x : UInt<3>
abbrev apart : Module
apart = record { name = name 2; ports = port false 6 (typ (shape.Unsigned (Some 3))) ∷ []; body = [] }

abbrev circuit : Circuit
circuit = record { names = texts; main = name 1; modules = child ∷ main ∷ apart ∷ []; prints = [] }

-- The three modules, of which M reaches itself and C, with the types of their declarations.
abbrev fitted : Fitted
fitted = record {
  checked = record {
    circuit = circuit;
    resolved = circuit;
    scope = record { reached = true ∷ true ∷ false ∷ []; uses = []; targets = 0 ∷ [] };
    types = [];
  };
  declared = typ shape.Clock ∷ bundle ∷ instance ∷ typ (shape.Signed (Some 4)) ∷ typ (shape.Unsigned (Some 3)) ∷ [];
  nodes = [];
}

abbrev component : ℕ → ℕ → Bool → Component
component holder id listed = record { holder = holder; name = id; listed = listed }

-- An instance isn't listed, and no declaration of D.
five_components : components_of fitted.checked.resolved.modules fitted.checked.scope.reached
    ≡ component 0 3 true ∷ component 0 4 true ∷ component 1 7 false ∷ component 1 8 true ∷ component 2 6 false ∷ []
five_components = grind (arith, common_steps, stmt_lemmas)

clock_leaves : leaves (typ shape.Clock) ≡ record { path = []; flip = false; typ = typ shape.Clock } ∷ []
clock_leaves = grind (arith, type_lemmas)

bundle_leaves : leaves bundle ≡
    record { path = step.Field 5 ∷ step.Element 0 ∷ step.Field 6 ∷ []; flip = false; typ = typ (shape.Unsigned (Some 3)) }
    ∷ record { path = step.Field 5 ∷ step.Element 1 ∷ step.Field 6 ∷ []; flip = false; typ = typ (shape.Unsigned (Some 3)) } ∷ []
bundle_leaves = grind (arith, type_lemmas)

wire_leaves : leaves (typ (shape.Signed (Some 4))) ≡ record { path = []; flip = false; typ = typ (shape.Signed (Some 4)) } ∷ []
wire_leaves = grind (arith, type_lemmas)

-- A Reset and an AsyncReset are one bit.
reset_line : shape_line (codes "M r") shape.Reset ≡ codes "M r UInt 1\n"
unfolding digits
reset_line = refl

async_line : shape_line (codes "M a") shape.AsyncReset ≡ codes "M a UInt 1\n"
unfolding digits
async_line = refl

-- The clock has no line.
three_lines : listing_of fitted ≡ codes "C io.v[0].x UInt 3\nC io.v[1].x UInt 3\nM w SInt 4\n"
unfolding digits
three_lines = ap (λ all. flat_map (component_lines texts) (zip all fitted.declared)) five_components ∙ rw (clock_leaves, bundle_leaves, wire_leaves)

-- a wire in an arm of a `when`, and a node in its `else`
both_branches : (e : Expr) → stmt_declared (stmt.When (record { condition = e; body = stmt.Wire (name 8) (typ shape.Reset) ∷ [] } ∷ []) (stmt.Node (name 6) e ∷ [])) (name 1) true
    ≡ component 1 8 true ∷ component 1 6 true ∷ []
both_branches e = grind (arith, common_steps, stmt_lemmas)
