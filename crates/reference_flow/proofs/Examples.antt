-- Flows of references, as examples.
use Rattle.std.proofs.Common.{◌≡◌, ℕ, true, false, List, [], ◌∷◌, Some, arith}
use Rattle.std.proofs.lemmas.Grind.{common_steps}
use Rattle.fir_types.specs.declared.name.Name.{Name}
use Rattle.fir_types.specs.declared.fir_type.FirType.{FirType, the_lemmas as type_lemmas}
use Rattle.fir_types.specs.declared.fir_type.Shape.{Shape}
use Rattle.fir_types.specs.declared.fir_type.Shape.TheVariants as shape
use Rattle.fir_types.specs.declared.fir_type.Field.{Field}
use Rattle.fir_types.specs.declared.port.Port.{Port}
use Rattle.fir_tree.specs.declared.expr.Expr.{Expr, the_lemmas as expr_lemmas}
use Rattle.fir_tree.specs.declared.expr.Form.TheVariants as form
use Rattle.fir_tree.specs.declared.expr.Suffix.{Suffix}
use Rattle.fir_tree.specs.declared.expr.Suffix.TheVariants as suffix
use Rattle.fir_tree.specs.declared.stmt.Stmt.{Stmt, the_lemmas as stmt_lemmas}
use Rattle.fir_tree.specs.declared.stmt.Stmt.TheVariants as stmt
use Rattle.fir_tree.specs.declared.circuit.Module.{Module}
use Rattle.fir_tree.specs.declared.part.Flow.TheVariants.{Source, Sink, Duplex}
use Rattle.reference_flow.specs.Flows.{module_flows}

-- Places by their columns, on one line. Names: the output io is 22, the wire w is 23.
abbrev name : ℕ → ℕ → Name
name id column = record { id = id; place = record { line = 1; column = column } }

abbrev typ : ℕ → Shape → FirType
typ column s = record { place = record { line = 1; column = column }; shape = s }

abbrev uint : FirType
uint = typ 1 (shape.Unsigned (Some 1))

abbrev field : ℕ → Field
field id = record { flip = false; name = name id 1; typ = uint }

abbrev flipped : ℕ → Field
flipped id = record { flip = true; name = name id 1; typ = uint }

abbrev pair : FirType
pair = typ 1 (shape.Bundle (field 30 ∷ flipped 31 ∷ []))

abbrev output : ℕ → FirType → Port
output id t = record { output = true; name = name id 1; typ = t }

abbrev part : ℕ → ℕ → List Suffix → Expr
part id column suffixes = record { place = record { line = 1; column = column }; form = form.Ref (name id column) suffixes }

abbrev dot : ℕ → ℕ → Suffix
dot id column = suffix.Field (name id column)

abbrev module_of : List Port → List Stmt → Module
module_of ports body = record { name = name 10 1; ports = ports; body = body }

-- The flows of `io.x`, `io.y` of an output whose y is flipped, and of a wire's flipped field.
of_an_output : module_flows [] (module_of (output 22 pair ∷ []) (stmt.Connect (part 22 5 (dot 30 6 ∷ [])) (part 22 8 (dot 31 9 ∷ [])) ∷ [])) ≡ Sink ∷ Source ∷ []
of_an_output = grind (arith, common_steps, stmt_lemmas, expr_lemmas, type_lemmas)

of_a_wire : module_flows [] (module_of [] (stmt.Wire (name 23 3) pair ∷ stmt.Invalidate (part 23 5 (dot 31 6 ∷ [])) ∷ [])) ≡ Duplex ∷ []
of_a_wire = grind (arith, common_steps, stmt_lemmas, expr_lemmas, type_lemmas)
