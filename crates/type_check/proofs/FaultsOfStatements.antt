-- The faults of single statements, and the flows of some references.
use Rattle.std.proofs.Common.{◌≡◌, ℕ, true, false, List, [], ◌∷◌, Some, None, arith}
use Rattle.std.proofs.lemmas.Grind.{common_steps}
use Rattle.bit_words.specs.declared.value.Kind.TheVariants.{Unsigned}
use Rattle.fir_types.specs.declared.name.Name.{Name}
use Rattle.fir_types.specs.declared.fir_type.FirType.{FirType, the_lemmas as type_lemmas}
use Rattle.fir_types.specs.declared.fir_type.Shape.{Shape}
use Rattle.fir_types.specs.declared.fir_type.Shape.TheVariants as shape
use Rattle.fir_types.specs.declared.fir_type.Field.{Field}
use Rattle.fir_types.specs.declared.port.Port.{Port}
use Rattle.fir_tree.specs.declared.expr.Expr.{Expr, the_lemmas as expr_lemmas}
use Rattle.fir_tree.specs.declared.expr.Form.TheVariants as form
use Rattle.fir_tree.specs.declared.expr.Suffix.{Suffix}
use Rattle.fir_tree.specs.declared.expr.Suffix.TheVariants as suffix
use Rattle.fir_tree.specs.declared.stmt.Stmt.{Stmt, the_lemmas as stmt_lemmas}
use Rattle.fir_tree.specs.declared.stmt.Stmt.TheVariants as stmt
use Rattle.fir_tree.specs.declared.circuit.Module.{Module}
use Rattle.prim_ops.specs.declared.operation.PrimOp.{PrimOp}
use Rattle.prim_ops.specs.declared.operation.PrimOp.TheVariants.{Add, AsUInt, AsAsyncReset, Not}
use Rattle.type_check.specs.declared.fault.TypeFault.TheVariants as kind
use Rattle.type_check.specs.Statements.{module_walk}

-- Places by their columns, on one line. Names: the inputs a and s are 20 and 21, the output o is 22, the wire w is 23.
abbrev name : ℕ → ℕ → Name
name id column = record { id = id; place = record { line = 1; column = column } }

abbrev typ : ℕ → Shape → FirType
typ column s = record { place = record { line = 1; column = column }; shape = s }

abbrev uint : FirType
uint = typ 1 (shape.Unsigned (Some 1))

abbrev sint : FirType
sint = typ 1 (shape.Signed (Some 1))

abbrev field : ℕ → Field
field id = record { flip = false; name = name id 1; typ = uint }

abbrev flipped : ℕ → Field
flipped id = record { flip = true; name = name id 1; typ = uint }

abbrev pair : FirType
pair = typ 1 (shape.Bundle (field 30 ∷ flipped 31 ∷ []))

abbrev input : ℕ → FirType → Port
input id t = record { output = false; name = name id 1; typ = t }

abbrev output : ℕ → FirType → Port
output id t = record { output = true; name = name id 1; typ = t }

abbrev part : ℕ → ℕ → List Suffix → Expr
part id column suffixes = record { place = record { line = 1; column = column }; form = form.Ref (name id column) suffixes }

abbrev ref : ℕ → ℕ → Expr
ref id column = part id column []

abbrev dot : ℕ → ℕ → Suffix
dot id column = suffix.Field (name id column)

abbrev number : ℕ → ℕ → ℕ → Expr
number column width n = record { place = record { line = 1; column = column }; form = form.Literal Unsigned (Some width) (record { negative = false; magnitude = n }) }

abbrev module_of : List Port → List Stmt → Module
module_of ports body = record { name = name 10 1; ports = ports; body = body }

-- `connect a, UInt<1>(0)`: an input can't be driven.
input_driven : (module_walk [] (module_of (input 20 uint ∷ []) (stmt.Connect (ref 20 5) (number 8 1 0) ∷ [])) []).faults
    ≡ kind.FlowSink (record { line = 1; column = 5 }) ∷ []
input_driven = grind (arith, common_steps, stmt_lemmas, expr_lemmas, type_lemmas)

-- `connect o, s` from an SInt to a UInt.
other_kind : (module_walk [] (module_of (input 21 sint ∷ output 22 uint ∷ []) (stmt.Connect (ref 22 5) (ref 21 8) ∷ [])) []).faults
    ≡ kind.NotEquivalent (record { line = 1; column = 8 }) ∷ []
other_kind = grind (arith, common_steps, stmt_lemmas, expr_lemmas, type_lemmas)

-- `node n = a` of a bundle with a flip.
flip_in_node : (module_walk [] (module_of (input 20 pair ∷ []) (stmt.Node (name 24 3) (ref 20 5) ∷ [])) []).faults
    ≡ kind.NotPassive (record { line = 1; column = 5 }) ∷ []
flip_in_node = grind (arith, common_steps, stmt_lemmas, expr_lemmas, type_lemmas)

-- `node n = UInt<2>(4)`.
too_great : (module_walk [] (module_of [] (stmt.Node (name 24 3) (number 5 2 4) ∷ [])) []).faults
    ≡ kind.LiteralFit (record { line = 1; column = 5 }) ∷ []
too_great = grind (arith, common_steps, stmt_lemmas, expr_lemmas, type_lemmas)

-- `connect o, asUInt(c)` of a clock: the operation has no row for it, and the connect isn't judged.
clock_operand : (module_walk [] (module_of (input 20 (typ 1 shape.Clock) ∷ output 22 uint ∷ [])
    (stmt.Connect (ref 22 5) (record { place = record { line = 1; column = 8 }; form = form.Prim AsUInt (ref 20 9 ∷ []) [] }) ∷ [])) []).faults
    ≡ kind.OperandKind (record { line = 1; column = 8 }) ∷ []
clock_operand = grind (arith, common_steps, stmt_lemmas, expr_lemmas, type_lemmas)

-- `connect a, b.q`: the sides are judged each by itself.
each_side : (module_walk [] (module_of (input 20 uint ∷ input 21 uint ∷ []) (stmt.Connect (ref 20 5) (part 21 8 (dot 34 9 ∷ [])) ∷ [])) []).faults
    ≡ kind.NotBundle (record { line = 1; column = 9 }) ∷ kind.FlowSink (record { line = 1; column = 5 }) ∷ []
each_side = grind (arith, common_steps, stmt_lemmas, expr_lemmas, type_lemmas)

-- A module without a fault: the types of its expressions in text order, a node before its operands.
all_typed : (module_walk [] (module_of (input 20 uint ∷ output 22 uint ∷ [])
    (stmt.Connect (ref 22 5) (record { place = record { line = 1; column = 8 }; form = form.Prim Add (ref 20 9 ∷ number 10 3 4 ∷ []) [] }) ∷ [])) []).nodes
    ≡ uint ∷ typ 8 (shape.Unsigned None) ∷ uint ∷ typ 10 (shape.Unsigned (Some 3)) ∷ []
all_typed = grind (arith, common_steps, stmt_lemmas, expr_lemmas, type_lemmas)

-- AsyncReset: the input a is one, c is a clock, k a condition.
abbrev async : FirType
async = typ 1 shape.AsyncReset

abbrev clock : FirType
clock = typ 1 shape.Clock

abbrev prim : ℕ → PrimOp → Expr → Expr
prim column op operand = record { place = record { line = 1; column = column }; form = form.Prim op (operand ∷ []) [] }

-- `regreset r : UInt<1>, c, a, UInt<1>(0)`: an AsyncReset may be a reset.
async_reset : (module_walk [] (module_of (input 20 async ∷ input 25 clock ∷ []) (stmt.RegReset (name 26 2) uint (ref 25 4) (ref 20 5) (number 6 1 0) ∷ [])) []).faults ≡ []
async_reset = grind (arith, common_steps, stmt_lemmas, expr_lemmas, type_lemmas)

-- An SInt may not.
signed_reset : (module_walk [] (module_of (input 20 sint ∷ input 25 clock ∷ []) (stmt.RegReset (name 26 2) uint (ref 25 4) (ref 20 5) (number 6 1 0) ∷ [])) []).faults
    ≡ kind.ConditionKind (record { line = 1; column = 5 }) ∷ []
signed_reset = grind (arith, common_steps, stmt_lemmas, expr_lemmas, type_lemmas)

-- `when a :`: it is no condition.
async_condition : (module_walk [] (module_of (input 20 async ∷ []) (stmt.When (record { condition = ref 20 5; body = [] } ∷ []) [] ∷ [])) []).faults
    ≡ kind.ConditionKind (record { line = 1; column = 5 }) ∷ []
async_condition = grind (arith, common_steps, stmt_lemmas, expr_lemmas, type_lemmas)

-- `connect o, asUInt(a)`: a cast takes it. `connect o, not(a)`: no other operation does.
async_cast : (module_walk [] (module_of (input 20 async ∷ output 22 uint ∷ []) (stmt.Connect (ref 22 5) (prim 8 AsUInt (ref 20 9)) ∷ [])) []).faults ≡ []
async_cast = grind (arith, common_steps, stmt_lemmas, expr_lemmas, type_lemmas)

async_operand : (module_walk [] (module_of (input 20 async ∷ output 22 uint ∷ []) (stmt.Connect (ref 22 5) (prim 8 Not (ref 20 9)) ∷ [])) []).faults
    ≡ kind.OperandKind (record { line = 1; column = 8 }) ∷ []
async_operand = grind (arith, common_steps, stmt_lemmas, expr_lemmas, type_lemmas)

-- `connect o, asAsyncReset(u)` drives an AsyncReset, and no UInt.
async_driven : (module_walk [] (module_of (input 20 uint ∷ output 22 async ∷ []) (stmt.Connect (ref 22 5) (prim 8 AsAsyncReset (ref 20 9)) ∷ [])) []).faults ≡ []
async_driven = grind (arith, common_steps, stmt_lemmas, expr_lemmas, type_lemmas)

uint_not_driven : (module_walk [] (module_of (input 20 uint ∷ output 22 uint ∷ []) (stmt.Connect (ref 22 5) (prim 8 AsAsyncReset (ref 20 9)) ∷ [])) []).faults
    ≡ kind.NotEquivalent (record { line = 1; column = 8 }) ∷ []
uint_not_driven = grind (arith, common_steps, stmt_lemmas, expr_lemmas, type_lemmas)

-- `reg r : AsyncReset, c`: none is stored.
async_stored : (module_walk [] (module_of (input 25 clock ∷ []) (stmt.Reg (name 26 2) async (ref 25 4) ∷ [])) []).faults
    ≡ kind.OperandKind (record { line = 1; column = 1 }) ∷ []
async_stored = grind (arith, common_steps, stmt_lemmas, expr_lemmas, type_lemmas)
