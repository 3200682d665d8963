use Rattle.std.proofs.Common.{arith, sym}
use Rattle.phase_core.proofs.Runs.{publication_room}
use Rattle.phase_core.proofs.steps.publish.Goals as goal

pub set-requires : goal.set-requires
set-requires c = let r = publication_room c.args.script.now c.requires.script c.args.state.now c.in-Some.held c.in-Some-next.found c.requires.sound (sym c.in-Some-next.ensures.value) in omega (arith, r)
