use Rattle.std.proofs.Common.{◌∙◌, ◌++◌, ap, map, rules}
use Rattle.std.specs.List.{flat_map}
use Rattle.std.proofs.lemmas.List.{take_all}
use Rattle.fir_meaning.specs.ClockRoot.{Undriven, last_of, driven_by}
use Rattle.drive_check.specs.HeldTypes.{types_in}
use Rattle.drive_check.proofs.Blocks.{on_ok}
use Rattle.clock_check.specs.Driving.{driver_of}
use Rattle.clock_check.specs.Edges.{edges_of, walked}
use Rattle.clock_check.proofs.Walking.{arms_step, arm_more, last_step, flat_more, block_more, when_step, when_more}
use Rattle.clock_check.proofs.walk.+walk.Goals as goal

pub walk_arms-loop-arm-preserved : goal.walk_arms-loop-arm-preserved
walk_arms-loop-arm-preserved t c = record {
  drivers = arms_step (types_in c.args.types.now) c.args.arms.now c.loop-arm.arm-index c.arm-item.result (driver_of c.args.drivers.now.known.entries) (driver_of c.loop-arm.drivers.known.entries)
      (driver_of c.in_ok-branch.branch.known.entries) (driver_of c.cross.new.self.known.entries) c.loop-arm-test.true c.arm-item.is c.loop-arm.invariant.drivers (search rules) c.in_ok-cross.ensures;
  links = arm_more (types_in c.args.types.now) c.args.arms.now c.loop-arm.arm-index c.arm-item.result (edges_of c.args.links.now.items) (edges_of c.loop-arm.links.items)
      (edges_of c.walk_block.new.links.items) c.loop-arm-test.true c.arm-item.is c.loop-arm.invariant.links (search rules);
}

pub walk_block-loop-statement-preserved : goal.walk_block-loop-statement-preserved
walk_block-loop-statement-preserved t c = record {
  drivers = last_step (types_in c.args.types.now) c.args.statements.now c.loop-statement.statement-index c.statement-item.result (driver_of c.loop-statement.drivers.known.entries)
      (driver_of c.walk_statement.new.drivers.known.entries) c.loop-statement-test.true c.statement-item.is c.loop-statement.invariant.drivers c.in_ok-walk_statement.ensures.drivers;
  links = flat_more (λ s. (walked (types_in c.args.types.now) s).inner) c.args.statements.now c.loop-statement.statement-index c.statement-item.result (edges_of c.args.links.now.items)
      (edges_of c.loop-statement.links.items) (edges_of c.walk_statement.new.links.items) c.loop-statement-test.true c.statement-item.is c.loop-statement.invariant.links
      c.in_ok-walk_statement.ensures.links;
}

pub walk_block-returns-clause-links : goal.walk_block-returns-clause-links
walk_block-returns-clause-links t c =
    let types = types_in c.args.types.now in
    let whole = take_all c.loop-statement.statement-index c.args.statements.now c.loop-statement-test.false in
    block_more types c.args.statements.now (driver_of c.loop-statement.drivers.known.entries) (edges_of c.args.links.now.items) (edges_of c.loop-statement.links.items)
    (edges_of c.push_all.new.links.items)
    (λ leaf has. c.loop-statement.invariant.drivers leaf has ∙ ap (λ ss. last_of (map (driven_by types leaf) ss) Undriven) whole)
    (c.loop-statement.invariant.links ∙ ap (λ ss. edges_of c.args.links.now.items ++ flat_map (λ s. (walked types s).inner) ss) whole)
    c.in_ok-push_all.ensures

pub walk_statement-returns-in_ok-branch-in-When-clause-drivers :
    goal.walk_statement-returns-in_ok-branch-in-When-clause-drivers
walk_statement-returns-in_ok-branch-in-When-clause-drivers t c =
    on_ok c.cross.result
    (λ h. when_step (types_in c.args.types.now) c.args.statement.now c.in-When.arms c.in-When.other (driver_of c.args.drivers.now.known.entries)
    (driver_of c.walk_arms.new.drivers.known.entries) (driver_of c.in_ok-branch-in-When.branch.known.entries) (driver_of c.cross.new.self.known.entries) c.in-When.is
    (search rules) (search rules) h)
    c.cross.ensures

pub walk_statement-returns-in_ok-branch-in-When-clause-links :
    goal.walk_statement-returns-in_ok-branch-in-When-clause-links
walk_statement-returns-in_ok-branch-in-When-clause-links t c =
    on_ok c.cross.result
    (λ h. when_more (types_in c.args.types.now) c.args.statement.now c.in-When.arms c.in-When.other (edges_of c.args.links.now.items) (edges_of c.walk_arms.new.links.items)
    (edges_of c.walk_block.new.links.items) c.in-When.is (search rules) (search rules))
    c.cross.ensures
