-- Statements, conditions and registers in one cycle.
use Rattle.std.proofs.Common.{◌≡◌, ℕ, List, [], ◌∷◌, Some, None, arith, pos, ◌==◌, if◌then◌else◌}
use Rattle.std.proofs.lemmas.Grind.{common_steps}
use Rattle.fir_types.specs.declared.fir_type.FirType.{the_lemmas as type_lemmas}
use Rattle.fir_types.specs.Bundles.{nowhere}
use Rattle.fir_tree.specs.declared.expr.Expr.{Expr, the_lemmas as expr_lemmas}
use Rattle.fir_tree.specs.declared.stmt.Stmt.{Stmt, the_lemmas as stmt_lemmas}
use Rattle.fir_tree.specs.declared.stmt.Stmt.TheVariants as stmt
use Rattle.prim_ops.specs.declared.operation.PrimOp.TheVariants.{Eq, Add, Tail}
use Rattle.fir_meaning.specs.Components.{Component, Declaration, A_register, A_reset_register, A_wire, declarations_of}
use Rattle.fir_meaning.specs.Values.{Scene}
use Rattle.fir_meaning.specs.Drives.{drives}
use Rattle.fir_meaning.specs.States.{next_of_register}
use Rattle.fir_meaning.proofs.Samples.{uint, ref, literal, op, connect, arm, leaf, name}

-- Names: the inputs a and c are 20 and 21, the outputs x and y are 22 and 23, the register r and the wire w are 24 and 25.

-- a module in which a has two bits and everything else has eight, with a, x, r and w as given and all else 0
abbrev where_ : ℕ → ℕ → ℕ → ℕ → Scene
where_ a x r w = record {
  types = λ c. if c == 20 then uint 2 else uint 8;
  integers = λ c way. if c == 20 then pos a else if c == 22 then pos x else if c == 24 then pos r else if c == 25 then pos w else pos 0;
}

abbrev equals : Expr → ℕ → Expr
equals e n = op Eq (e ∷ literal 2 n ∷ []) []

--   connect x, UInt<8>(1)
--   when eq(a, UInt<2>(0)) :
--     connect x, UInt<8>(2)
--   else when eq(a, UInt<2>(1)) :
--     connect x, UInt<8>(3)
--   else :
--     connect y, UInt<8>(9)
--   connect y, x
abbrev last_connect : List Stmt
last_connect =
    connect (ref 22) (literal 8 1)
    ∷ stmt.When (arm (equals (ref 20) 0) (connect (ref 22) (literal 8 2) ∷ []) ∷ arm (equals (ref 20) 1) (connect (ref 22) (literal 8 3) ∷ []) ∷ [])
    (connect (ref 23) (literal 8 9) ∷ [])
    ∷ connect (ref 23) (ref 22) ∷ []

-- The connect in the arm that holds comes later than the one before the `when`.
first_arm : drives (where_ 0 2 0 0) (leaf 22 []) last_connect ≡ Some (pos 2)
first_arm = grind (arith, common_steps, stmt_lemmas, expr_lemmas, type_lemmas)

second_arm : drives (where_ 1 3 0 0) (leaf 22 []) last_connect ≡ Some (pos 3)
second_arm = grind (arith, common_steps, stmt_lemmas, expr_lemmas, type_lemmas)

neither_arm : drives (where_ 2 1 0 0) (leaf 22 []) last_connect ≡ Some (pos 1)
neither_arm = grind (arith, common_steps, stmt_lemmas, expr_lemmas, type_lemmas)

-- The `else` holds here, and yet the connect behind it stays.
last_wins : drives (where_ 2 1 0 0) (leaf 23 []) last_connect ≡ Some (pos 1)
last_wins = grind (arith, common_steps, stmt_lemmas, expr_lemmas, type_lemmas)

-- `else when` asks that the conditions before it are 0: both conditions hold at a = 0, and the first arm alone is taken.
abbrev both_hold : List Stmt
both_hold =
    stmt.When (arm (equals (ref 20) 0) (connect (ref 22) (literal 8 2) ∷ []) ∷ arm (literal 1 1) (connect (ref 22) (literal 8 3) ∷ []) ∷ []) [] ∷ []

earlier_arm_first : drives (where_ 0 0 0 0) (leaf 22 []) both_hold ≡ Some (pos 2)
earlier_arm_first = grind (arith, common_steps, stmt_lemmas, expr_lemmas, type_lemmas)

later_arm_else : drives (where_ 1 0 0 0) (leaf 22 []) both_hold ≡ Some (pos 3)
later_arm_else = grind (arith, common_steps, stmt_lemmas, expr_lemmas, type_lemmas)

-- A condition of no bits never holds.
no_bits : drives (where_ 0 0 0 0) (leaf 22 []) (stmt.When (arm (literal 0 0) (connect (ref 22) (literal 8 2) ∷ []) ∷ []) (connect (ref 22) (literal 8 3) ∷ []) ∷ []) ≡ Some (pos 3)
no_bits = grind (arith, common_steps, stmt_lemmas, expr_lemmas, type_lemmas)

-- A connect cuts to the sink's width, and an `invalidate` gives 0.
cut_to_sink : drives (where_ 0 0 0 0) (leaf 20 []) (connect (ref 20) (literal 8 7) ∷ []) ≡ Some (pos 3)
cut_to_sink = grind (arith, common_steps, stmt_lemmas, expr_lemmas, type_lemmas)

invalidated : drives (where_ 0 0 0 0) (leaf 22 []) (connect (ref 22) (literal 8 7) ∷ stmt.Invalidate (ref 22) ∷ []) ≡ Some (pos 0)
invalidated = grind (arith, common_steps, stmt_lemmas, expr_lemmas, type_lemmas)

undriven : drives (where_ 0 0 0 0) (leaf 24 []) last_connect ≡ None
undriven = grind (arith, common_steps, stmt_lemmas, expr_lemmas, type_lemmas)

-- Components declared in a branch:
--   when c :
--     reg r : UInt<8>, clock
--     wire w : UInt<8>
--     connect w, tail(add(r, UInt<8>(1)), 1)
--     connect r, w
abbrev raised : Expr → Expr
raised e = op Tail (op Add (e ∷ literal 8 1 ∷ []) [] ∷ []) (1 ∷ [])

abbrev inner : List Stmt
inner =
    stmt.Reg (name 24) (uint 8) (ref 26) ∷ stmt.Wire (name 25) (uint 8) ∷ connect (ref 25) (raised (ref 24)) ∷ connect (ref 24) (ref 25) ∷ []

abbrev behind_register : List Stmt
behind_register = stmt.Wire (name 25) (uint 8) ∷ connect (ref 25) (raised (ref 24)) ∷ connect (ref 24) (ref 25) ∷ []

abbrev in_branch : Declaration
in_branch = record { name = 24; place = nowhere; sort = A_register (ref 26); block = inner; behind = behind_register }

-- The register's block is the branch, so the condition around it isn't asked: it counts where c is 0 too.
counts_in_branch : next_of_register (where_ 0 0 6 7) (record { declaration = in_branch; typ = uint 8 }) (A_register (ref 26)) [] (pos 6) ≡ pos 7
counts_in_branch = grind (arith, common_steps, stmt_lemmas, expr_lemmas, type_lemmas)

declared_there : declarations_of (record { name = name 30; ports = []; body = stmt.When (arm (ref 21) inner ∷ []) [] ∷ [] }) ≡
    in_branch ∷ record { name = 25; place = nowhere; sort = A_wire; block = inner; behind = connect (ref 25) (raised (ref 24)) ∷ connect (ref 24) (ref 25) ∷ [] } ∷ []
declared_there = grind (arith, common_steps, stmt_lemmas)

-- A register with a reset, `regreset r : UInt<8>, clock, reset, UInt<8>(5)` and `connect r, tail(add(r, UInt<8>(1)), 1)`: here c is
-- the reset.
abbrev counter : List Stmt
counter = connect (ref 24) (raised (ref 24)) ∷ []

abbrev with_reset : ℕ → ℕ → Scene
with_reset reset r = record { types = λ c. if c == 21 then uint 1 else uint 8; integers = λ c way. if c == 21 then pos reset else if c == 24 then pos r else pos 0 }

abbrev register : Component
register = record { declaration = record { name = 24; place = nowhere; sort = A_reset_register (ref 26) (ref 21) (literal 8 5); block = counter; behind = counter }; typ = uint 8 }

reset_first : next_of_register (with_reset 1 9) register register.declaration.sort [] (pos 9) ≡ pos 5
reset_first = grind (arith, common_steps, stmt_lemmas, expr_lemmas, type_lemmas)

counts : next_of_register (with_reset 0 9) register register.declaration.sort [] (pos 9) ≡ pos 10
counts = grind (arith, common_steps, stmt_lemmas, expr_lemmas, type_lemmas)

wraps : next_of_register (with_reset 0 255) register register.declaration.sort [] (pos 255) ≡ pos 0
wraps = grind (arith, common_steps, stmt_lemmas, expr_lemmas, type_lemmas)

-- A register that nothing drives keeps its value.
keeps : next_of_register (where_ 0 0 6 7) (record { declaration = record { name = 24; place = nowhere; sort = A_register (ref 26); block = []; behind = [] }; typ = uint 8 }) (A_register (ref 26)) [] (pos 6) ≡ pos 6
keeps = grind (arith, common_steps, stmt_lemmas, expr_lemmas, type_lemmas)

-- Two registers that take each other's value both take the old one: `connect r, w` and `connect w, r`, with w a register too.
abbrev swap : List Stmt
swap = connect (ref 24) (ref 25) ∷ connect (ref 25) (ref 24) ∷ []

abbrev swapping : ℕ → Component
swapping c = record { declaration = record { name = c; place = nowhere; sort = A_register (ref 26); block = swap; behind = swap }; typ = uint 8 }

takes_old : next_of_register (where_ 0 0 6 7) (swapping 24) (A_register (ref 26)) [] (pos 6) ≡ pos 7
takes_old = grind (arith, common_steps, stmt_lemmas, expr_lemmas, type_lemmas)

other_takes_old : next_of_register (where_ 0 0 6 7) (swapping 25) (A_register (ref 26)) [] (pos 7) ≡ pos 6
other_takes_old = grind (arith, common_steps, stmt_lemmas, expr_lemmas, type_lemmas)
