use Rattle.std.proofs.Common.{nat_eq}
use Rattle.std.specs.List.{flat_map}
use Rattle.reference_flow.specs.Flows.{stmt_declared}
use Rattle.reference_flow.specs.Declarations.{arm_declared}
use Rattle.reference_flow.specs.Reached.{neither}
use Rattle.reference_flow.proofs.Declaring.{none_before, some_before, none_more, some_here, one_named, one_other, declared-when, declared-arm, declared-inst, no_some, declares_nothing}
use Rattle.reference_flow.proofs.declaration.+declared.Goals as goal

pub declared_among-loop-statement-init : goal.declared_among-loop-statement-init
declared_among-loop-statement-init t c = neither

pub declared_among-returns-in-Some : goal.declared_among-returns-in-Some
declared_among-returns-in-Some t c =
    some_here (stmt_declared c.args.modules.now) (nat_eq c.args.id) c.args.statements.now c.loop-statement.statement-index c.statement-item.result c.in-Some.reached
    c.loop-statement-test.true c.statement-item.is c.loop-statement.invariant (rw c.in-Some.is at c.declared_by.ensures)

pub declared_among-loop-statement-preserved : goal.declared_among-loop-statement-preserved
declared_among-loop-statement-preserved t c =
    none_more (stmt_declared c.args.modules.now) (nat_eq c.args.id) c.args.statements.now c.loop-statement.statement-index c.statement-item.result
    c.loop-statement-test.true c.statement-item.is c.loop-statement.invariant (rw (no_some c.declared_by.result c.in_default.not-Some) at c.declared_by.ensures)

pub declared_by-returns-then-name-id : goal.declared_by-returns-then-name-id
declared_by-returns-then-name-id t c =
    rw (declared-inst c.args.modules.now c.args.statement.now c.in-Inst.name c.in-Inst.target c.in-Inst.is)
    (one_named c.in-Inst.name.id c.args.id _ c.instance.result c.if-name-id.true c.instance.ensures)

pub declared_by-returns-else-name-id : goal.declared_by-returns-else-name-id
declared_by-returns-else-name-id t c =
    rw (declared-inst c.args.modules.now c.args.statement.now c.in-Inst.name c.in-Inst.target c.in-Inst.is)
    (one_other c.in-Inst.name.id c.args.id _ c.if-name-id.false)

pub declared_by-returns-in-Some : goal.declared_by-returns-in-Some
declared_by-returns-in-Some t c =
    rw (declared-when c.args.modules.now c.args.statement.now c.in-When.arms c.in-When.other c.in-When.is)
    (some_before c.in-Some.reached (nat_eq c.args.id) (flat_map (arm_declared c.args.modules.now) c.in-When.arms) (flat_map (stmt_declared c.args.modules.now) c.in-When.other)
    (rw (c.in-Some.is, c.as_slice.ensures) at c.declared_in_arms.ensures))

pub declared_by-returns-in-None : goal.declared_by-returns-in-None
declared_by-returns-in-None t c =
    rw (declared-when c.args.modules.now c.args.statement.now c.in-When.arms c.in-When.other c.in-When.is)
    (none_before (nat_eq c.args.id) (flat_map (arm_declared c.args.modules.now) c.in-When.arms) (flat_map (stmt_declared c.args.modules.now) c.in-When.other)
    (rw (c.in-None.is, c.as_slice.ensures) at c.declared_in_arms.ensures) (rw c.as_slice-in-None.ensures at c.declared_among.ensures))

pub declared_by-returns-in-Connect : goal.declared_by-returns-in-Connect
declared_by-returns-in-Connect t c = rw (declares_nothing c.args.modules.now c.args.statement.now c.in-Connect.is) neither

pub declared_in_arms-loop-arm-init : goal.declared_in_arms-loop-arm-init
declared_in_arms-loop-arm-init t c = neither

pub declared_in_arms-returns-in-Some : goal.declared_in_arms-returns-in-Some
declared_in_arms-returns-in-Some t c =
    some_here (arm_declared c.args.modules.now) (nat_eq c.args.id) c.args.arms.now c.loop-arm.arm-index c.arm-item.result c.in-Some.reached
    c.loop-arm-test.true c.arm-item.is c.loop-arm.invariant (rw (declared-arm c.args.modules.now c.arm-item.result) (rw (c.in-Some.is, c.as_slice.ensures) at c.declared_among.ensures))

pub declared_in_arms-loop-arm-preserved : goal.declared_in_arms-loop-arm-preserved
declared_in_arms-loop-arm-preserved t c =
    none_more (arm_declared c.args.modules.now) (nat_eq c.args.id) c.args.arms.now c.loop-arm.arm-index c.arm-item.result
    c.loop-arm-test.true c.arm-item.is c.loop-arm.invariant
    (rw (declared-arm c.args.modules.now c.arm-item.result) (rw (no_some c.declared_among.result c.in_default.not-Some, c.as_slice.ensures) at c.declared_among.ensures))
