use Rattle.std.proofs.Common.{arith, sym}
use Rattle.phase_core.proofs.Runs.{arrival_room}
use Rattle.phase_core.proofs.steps.arrive.Goals as goal

pub overflow_add-state : goal.overflow_add-state
overflow_add-state c =
    let r = arrival_room c.args.script.now c.requires.script c.args.state.now c.args.index c.in-Some.held c.requires.sound (sym c.in-Some.ensures.view) (sym c.if-not-allows_arrive.ensures) in
    record { fits = omega (arith, r.0) }

pub overflow_add-arrived : goal.overflow_add-arrived
overflow_add-arrived c =
    let r = arrival_room c.args.script.now c.requires.script c.args.state.now c.args.index c.in-Some.held c.requires.sound (sym c.in-Some.ensures.view) (sym c.if-not-allows_arrive.ensures) in
    record { fits = omega (arith, r.1) }
