use Rattle.std.proofs.Common.{◌≡◌, sym, ◌∙◌, refl}
use Rattle.std.specs.List.{flat_map}
use Rattle.std.specs.declared.ops.ControlFlow.TheVariants.{Continue}
use Rattle.reference_flow.specs.Flows.{arm_flows, components_of, expr_flows}
use Rattle.reference_flow.specs.Counting.{passed}
use Rattle.reference_flow.proofs.Passing.{one_more, broken_here, goes_behind, breaks_before}
use Rattle.reference_flow.proofs.Sentences.{flows-reset, flows-connect, flows-when, flows-arm}
use Rattle.reference_flow.proofs.Stepping.{at_end}
use Rattle.reference_flow.proofs.flows.+statements.Goals as goal

pub pass_statements-returns-in_err-left : goal.pass_statements-returns-in_err-left
pass_statements-returns-in_err-left t c =
    c.from_residual.ensures
    ∙ sym (broken_here _ c.args.statements.now c.loop-statement.statement-index c.statement-item.result c.args.left c.loop-statement.left _ c.loop-statement-test.true c.statement-item.is
    c.loop-statement.invariant (sym c.in_err-left.ensures))

pub pass_statements-loop-statement-preserved : goal.pass_statements-loop-statement-preserved
pass_statements-loop-statement-preserved t c =
    one_more _ c.args.statements.now c.loop-statement.statement-index c.statement-item.result c.args.left c.loop-statement.left _ c.loop-statement-test.true c.statement-item.is
    c.loop-statement.invariant (sym c.in_ok-left.ensures)

pub pass_statement-returns-in_err-left-in-RegReset : goal.pass_statement-returns-in_err-left-in-RegReset
pass_statement-returns-in_err-left-in-RegReset t c =
    c.from_residual.ensures
    ∙ breaks_before _ _ _ _ (flows-reset (components_of c.args.modules.now c.args.holder.now) c.args.statement.now _ _ _ _ _ c.in-RegReset.is) c.in_err-left-in-RegReset.ensures

pub pass_statement-returns-in_err-left-in-RegReset-2 : goal.pass_statement-returns-in_err-left-in-RegReset-2
pass_statement-returns-in_err-left-in-RegReset-2 t c =
    c.from_residual-in_err-left-in-RegReset-2.ensures ∙ breaks_before (expr_flows c.in-RegReset.reset (components_of c.args.modules.now c.args.holder.now)) (expr_flows c.in-RegReset.init (components_of c.args.modules.now c.args.holder.now)) c.in_ok-left-in-RegReset.left _ refl c.in_err-left-in-RegReset-2.ensures
    ∙ goes_behind _ _ _ _ (flows-reset (components_of c.args.modules.now c.args.holder.now) c.args.statement.now _ _ _ _ _ c.in-RegReset.is) c.in_ok-left-in-RegReset.ensures

pub pass_statement-returns-in_ok-left-in-RegReset-2 : goal.pass_statement-returns-in_ok-left-in-RegReset-2
pass_statement-returns-in_ok-left-in-RegReset-2 t c =
    c.pass_expr-in-RegReset-2.ensures ∙ goes_behind (expr_flows c.in-RegReset.reset (components_of c.args.modules.now c.args.holder.now)) (expr_flows c.in-RegReset.init (components_of c.args.modules.now c.args.holder.now)) c.in_ok-left-in-RegReset.left _ refl c.in_ok-left-in-RegReset-2.ensures
    ∙ goes_behind _ _ _ _ (flows-reset (components_of c.args.modules.now c.args.holder.now) c.args.statement.now _ _ _ _ _ c.in-RegReset.is) c.in_ok-left-in-RegReset.ensures

pub pass_statement-returns-in_err-left-in-Connect : goal.pass_statement-returns-in_err-left-in-Connect
pass_statement-returns-in_err-left-in-Connect t c =
    c.from_residual-in_err-left-in-Connect.ensures
    ∙ breaks_before _ _ _ _ (flows-connect (components_of c.args.modules.now c.args.holder.now) c.args.statement.now _ _ c.in-Connect.is) c.in_err-left-in-Connect.ensures

pub pass_statement-returns-in_ok-left-in-Connect : goal.pass_statement-returns-in_ok-left-in-Connect
pass_statement-returns-in_ok-left-in-Connect t c =
    c.pass_expr-in-Connect-2.ensures
    ∙ goes_behind _ _ _ _ (flows-connect (components_of c.args.modules.now c.args.holder.now) c.args.statement.now _ _ c.in-Connect.is) c.in_ok-left-in-Connect.ensures

pub pass_statement-returns-in_err-left-in-When : goal.pass_statement-returns-in_err-left-in-When
pass_statement-returns-in_err-left-in-When t c =
    let components = components_of c.args.modules.now c.args.holder.now in
    let here = sym (breaks_before _ _ _ _ (flows-arm components c.arm-item.result) c.in_err-left-in-When.ensures) in
    let arms = broken_here (λ a. arm_flows a components) c.as_slice-arm-items.result.now c.loop-arm.arm-index c.arm-item.result c.args.left c.loop-arm.left _
    c.loop-arm-test.true c.arm-item.is c.loop-arm.invariant here in
    c.from_residual-in_err-left-in-When.ensures
    ∙ breaks_before _ _ _ _ (flows-when components c.args.statement.now _ _ c.in-When.is) (sym (rw c.as_slice-arm-items.ensures at arms))

pub pass_statement-returns-in_err-left-in-When-2 : goal.pass_statement-returns-in_err-left-in-When-2
pass_statement-returns-in_err-left-in-When-2 t c =
    let components = components_of c.args.modules.now c.args.holder.now in
    let here = sym ((rw c.as_slice.ensures at c.in_err-left-in-When-2.ensures) ∙ goes_behind _ _ _ _ (flows-arm components c.arm-item.result) c.in_ok-left-in-When.ensures) in
    let arms = broken_here (λ a. arm_flows a components) c.as_slice-arm-items.result.now c.loop-arm.arm-index c.arm-item.result c.args.left c.loop-arm.left _
    c.loop-arm-test.true c.arm-item.is c.loop-arm.invariant here in
    c.from_residual-in_err-left-in-When-2.ensures
    ∙ breaks_before _ _ _ _ (flows-when components c.args.statement.now _ _ c.in-When.is) (sym (rw c.as_slice-arm-items.ensures at arms))

pub pass_statement-loop-arm-preserved : goal.pass_statement-loop-arm-preserved
pass_statement-loop-arm-preserved t c =
    one_more _ c.as_slice-arm-items.result.now c.loop-arm.arm-index c.arm-item.result c.args.left c.loop-arm.left _ c.loop-arm-test.true c.arm-item.is c.loop-arm.invariant
    (sym ((rw c.as_slice.ensures at c.in_ok-left-in-When-2.ensures)
    ∙ goes_behind _ _ _ _ (flows-arm (components_of c.args.modules.now c.args.holder.now) c.arm-item.result) c.in_ok-left-in-When.ensures))

pub pass_statement-returns-after-loop-arm : goal.pass_statement-returns-after-loop-arm
pass_statement-returns-after-loop-arm t c =
    let components = components_of c.args.modules.now c.args.holder.now in
    let arms = at_end (λ xs. passed (flat_map (λ a. arm_flows a components) xs) c.args.left ≡ Continue c.loop-arm.left)
    c.as_slice-arm-items.result.now c.loop-arm.arm-index c.loop-arm-test.false c.loop-arm.invariant in
    (rw c.as_slice-in-When.ensures at c.pass_statements-in-When.ensures)
    ∙ goes_behind _ _ _ _ (flows-when components c.args.statement.now _ _ c.in-When.is) (sym (rw c.as_slice-arm-items.ensures at arms))
