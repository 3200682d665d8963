use Rattle.std.proofs.Common.{arith, sym, subst, rules}
use Rattle.drive_check.specs.HeldTypes.{types_in}
use Rattle.drive_check.specs.Walks.{Walks}
use Rattle.drive_check.proofs.Blocks.{on_ok, statements_more, arms_more, when_walks, walked-inst}
use Rattle.drive_check.proofs.walk.+walk.Goals as goal

pub walk_arms-loop-arm-preserved : goal.walk_arms-loop-arm-preserved
walk_arms-loop-arm-preserved t c =
    let both = arms_more (types_in c.args.types.now) c.args.arms.now c.loop-arm.arm-index c.arm-item.result c.args.faults.now.items c.loop-arm.faults.items c.walk_block.new.faults.items
    c.args.certain.now.keys.keys c.loop-arm.certain.keys.keys c.in_ok-own.own.keys.keys c.keep.new.self.keys.keys c.loop-arm-test.true c.arm-item.is
    c.loop-arm.invariant.certain c.loop-arm.invariant.faults (search rules) (search rules) c.keep.ensures in
    record { certain = both.0; faults = both.1 }

pub walk_block-loop-at-preserved : goal.walk_block-loop-at-preserved
walk_block-loop-at-preserved t c =
    let both = statements_more (types_in c.args.types.now) c.args.statements.now c.loop-at.at c.index-statements-at.result c.args.faults.now.items c.loop-at.faults.items
    c.walk_statement.new.faults.items c.loop-at.certain.keys.keys c.walk_statement.new.certain.keys.keys c.loop-at-test.true c.loop-at.invariant.within c.index-statements-at.is
    c.loop-at.invariant.certain c.loop-at.invariant.faults c.in_ok-walk_statement.ensures in
    record { within = omega arith; certain = both.0; faults = both.1 }

pub walk_statement-returns-in-Inst : goal.walk_statement-returns-in-Inst
walk_statement-returns-in-Inst t c =
    let is = walked-inst (types_in c.args.types.now) c.args.statement.now c.in-Inst.name c.in-Inst.field-1 c.in-Inst.is in
    on_ok c.push_undriven-in-Inst.result
    (λ h. subst (λ w. Walks w c.args.certain.now.keys.keys c.args.faults.now.items c.args.certain.now.keys.keys c.push_undriven-in-Inst.new.faults.items) (sym is)
    (record { certain = λ leaf. search rules; told = h })) c.push_undriven-in-Inst.ensures

pub walk_statement-returns-in_ok-walk_arms-in-When : goal.walk_statement-returns-in_ok-walk_arms-in-When
walk_statement-returns-in_ok-walk_arms-in-When t c =
    on_ok c.add.result
    (λ h. when_walks (types_in c.args.types.now) c.args.statement.now c.in-When.arms c.in-When.other c.args.certain.now.keys.keys c.in_ok-all-in-When.all.keys.keys
    c.walk_arms.new.certain.keys.keys c.add.new.self.keys.keys c.args.faults.now.items c.walk_block.new.faults.items c.walk_arms.new.faults.items c.in-When.is
    (search rules) (search rules) (search rules) (search rules) h) c.add.ensures
