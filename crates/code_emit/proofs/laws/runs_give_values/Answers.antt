use Rattle.std.proofs.Common.{refl}
use Rattle.flat_code.specs.Meaning.{ran}
use Rattle.ground_net.specs.Grounds.{value}
use Rattle.code_draft.proofs.Held.{held_value}
use Rattle.code_draft.proofs.Running.{run_solves}
use Rattle.code_emit.proofs.laws.runs_give_values.Goals as goal

pub returns : goal.returns
returns c = λ S g old new s words inputs frame instant m long plain sees.
    let F = ran new.wides new.instrs words inputs frame in
    held_value F s (value g instant) (m.holds words inputs F (value g instant) (run_solves new words inputs frame m.grows.is long plain) (instant, sees, refl))
