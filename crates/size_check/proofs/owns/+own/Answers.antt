use Rattle.std.proofs.Common.{◌+◌, ap, ap₂, ◌∙◌, sym}
use Rattle.size_check.specs.Reaching.{types_in}
use Rattle.size_check.specs.Owns.{stmt_own}
use Rattle.size_check.specs.Caps.{capped}
use Rattle.size_check.proofs.Owning.{all_more, arms_begin, arms_more, arms_end, small_more, register_leaves, reg_sums, reset_sums, node_sums, connect_sums, when_sums, ok_then}
use Rattle.size_check.proofs.owns.+own.Goals as goal

pub block_own-loop-statement-preserved : goal.block_own-loop-statement-preserved
block_own-loop-statement-preserved t c =
    all_more (stmt_own c.args.names.now (types_in c.args.known.now)) c.args.statements.now c.loop-statement.statement-index c.statement-item.result c.args.around
    c.loop-statement.total c.in_ok-own.own c.plus-total.result c.loop-statement-test.true c.statement-item.is c.loop-statement.invariant c.in_ok-own.ensures c.plus-total.ensures

pub arms_own-loop-arm-init : goal.arms_own-loop-arm-init
arms_own-loop-arm-init t c = record {
  whole = arms_begin c.args.names.now (types_in c.args.known.now) c.args.arms.now c.args.around c.none-total.result c.none-total.ensures;
  small = c.none-total.ensures ∙ sym (ap capped c.none-total.ensures);
}

pub arms_own-loop-arm-preserved : goal.arms_own-loop-arm-preserved
arms_own-loop-arm-preserved t c = record {
  whole = arms_more c.args.names.now (types_in c.args.known.now) c.args.arms.now c.loop-arm.arm-index c.arm-item.result _ c.loop-arm.total c.in_ok-own.own c.plus-total.result
      c.loop-arm.conditions c.in_ok-count.count c.in_ok-conditions.conditions c.loop-arm-test.true c.arm-item.is c.loop-arm.invariant.whole c.in_ok-count.ensures c.in_ok-conditions.ensures
      (rw c.as_slice.ensures at c.in_ok-own.ensures) c.plus-total.ensures;
  small = small_more c.loop-arm.total c.in_ok-own.own c.plus-total.result c.plus-total.ensures;
}

pub arms_own-returns : goal.arms_own-returns
arms_own-returns t c =
    arms_end c.args.names.now (types_in c.args.known.now) c.args.arms.now c.loop-arm.arm-index _ c.loop-arm.total c.loop-arm.conditions c.loop-arm-test.false c.loop-arm.invariant.whole c.loop-arm.invariant.small

pub statement_own-returns-in_ok-size-in-Reg : goal.statement_own-returns-in_ok-size-in-Reg
statement_own-returns-in_ok-size-in-Reg t c =
    reg_sums c.args.names.now (types_in c.args.known.now) c.args.statement.now c.in-Reg.name c.in-Reg.typ c.in-Reg.clock c.args.around
    c.register-kept.result.leaves c.in_ok-nodes-in-Reg.field-0 c.weigh.result.most c.max-most.result c.in_ok-size-in-Reg.size c.register-kept.result c.plus-in-Reg.result
    c.in-Reg.is (register_leaves c.args.names.now c.in-Reg.name.id c.in-Reg.typ c.register-kept.result c.register-kept.ensures) (ap (λ w. w.most) c.weigh.ensures.weight) c.max-most.ensures c.in_ok-nodes-in-Reg.ensures c.in_ok-size-in-Reg.ensures c.register-kept.ensures c.plus-in-Reg.ensures

pub statement_own-returns-in_ok-size-in-RegReset : goal.statement_own-returns-in_ok-size-in-RegReset
statement_own-returns-in_ok-size-in-RegReset t c =
    let inner = c.in_ok-more-in-RegReset.ensures ∙ ap₂ (λ x y. x + y) c.in_ok-nodes-in-RegReset.ensures c.in_ok-nodes-in-RegReset-2.ensures in
    let own = c.in_ok-own-in-RegReset.ensures ∙ ap₂ (λ x y. x + y) inner c.in_ok-nodes-in-RegReset-3.ensures in
    reset_sums c.args.names.now (types_in c.args.known.now) c.args.statement.now c.in-RegReset.name c.in-RegReset.typ c.in-RegReset.clock c.in-RegReset.reset c.in-RegReset.init c.args.around
    c.register-kept-in-RegReset.result.leaves c.weigh-in-RegReset.result.most c.max-first.result c.weigh-in-RegReset-2.result.most c.weigh-in-RegReset-3.result.most c.max-second.result c.max.result
    c.in_ok-own-in-RegReset.own c.in_ok-size-in-RegReset.size c.register-kept-in-RegReset.result c.plus-in-RegReset.result
    c.in-RegReset.is (register_leaves c.args.names.now c.in-RegReset.name.id c.in-RegReset.typ c.register-kept-in-RegReset.result c.register-kept-in-RegReset.ensures) (ap (λ w. w.most) c.weigh-in-RegReset.ensures.weight) c.max-first.ensures (ap (λ w. w.most) c.weigh-in-RegReset-2.ensures.weight)
    (ap (λ w. w.most) c.weigh-in-RegReset-3.ensures.weight) c.max-second.ensures c.max.ensures own c.in_ok-size-in-RegReset.ensures c.register-kept-in-RegReset.ensures c.plus-in-RegReset.ensures

pub statement_own-returns-in_ok-size-in-Node : goal.statement_own-returns-in_ok-size-in-Node
statement_own-returns-in_ok-size-in-Node t c =
    let leaves = c.component_leaves-leaves.ensures in
    node_sums c.args.names.now (types_in c.args.known.now) c.args.statement.now c.in-Node.name c.in-Node.expr c.args.around
    c.component_leaves-leaves.result.leaves c.weigh-in-Node.result.most c.max-most-in-Node.result c.in_ok-nodes-in-Node.field-0 c.in_ok-size-in-Node.size c.component_leaves-leaves.result c.plus-in-Node.result
    c.in-Node.is (ap (λ s. s.leaves) leaves) (ap (λ w. w.most) c.weigh-in-Node.ensures.weight) c.max-most-in-Node.ensures c.in_ok-nodes-in-Node.ensures
    c.in_ok-size-in-Node.ensures leaves c.plus-in-Node.ensures

pub statement_own-returns-in_ok-more-in-Connect : goal.statement_own-returns-in_ok-more-in-Connect
statement_own-returns-in_ok-more-in-Connect t c =
    let own = c.in_ok-more-in-Connect.ensures ∙ ap₂ (λ x y. x + y) c.in_ok-nodes-in-Connect.ensures c.in_ok-nodes-in-Connect-2.ensures in
    ok_then c.sized-in-Connect.result
    (λ after z. connect_sums c.args.names.now (types_in c.args.known.now) c.args.statement.now c.in-Connect.left c.in-Connect.right c.args.around
    c.weigh-in-Connect.result.most c.weigh-in-Connect-2.result.most c.max-most-in-Connect.result c.in_ok-more-in-Connect.field-0 after
    c.in-Connect.is (ap (λ w. w.most) c.weigh-in-Connect.ensures.weight) (ap (λ w. w.most) c.weigh-in-Connect-2.ensures.weight) c.max-most-in-Connect.ensures own z)
    c.sized-in-Connect.ensures

pub statement_own-returns-in_ok-last-in-When : goal.statement_own-returns-in_ok-last-in-When
statement_own-returns-in_ok-last-in-When t c =
    when_sums c.args.names.now (types_in c.args.known.now) c.args.statement.now c.in-When.arms c.in-When.other c.args.around
    c.most_in_conditions-most.result c.in_ok-own-in-When.own c.in_ok-more-in-When.field-0 c.in_ok-size-in-When.size c.in_ok-inside-in-When.inside c.in_ok-last-in-When.last c.plus-in-When.result c.plus-in-When-2.result
    c.in-When.is (rw c.as_slice.ensures at c.most_in_conditions-most.ensures) (rw c.as_slice-in-When.ensures at c.in_ok-own-in-When.ensures) c.in_ok-size-in-When.ensures
    (rw c.as_slice-in-When-2.ensures at c.in_ok-inside-in-When.ensures) c.in_ok-more-in-When.ensures (rw c.as_slice-in-When-3.ensures at c.in_ok-last-in-When.ensures)
    c.plus-in-When.ensures c.plus-in-When-2.ensures
