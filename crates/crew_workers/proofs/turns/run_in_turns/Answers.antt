use Rattle.std.proofs.Common.{arith, length, ◌≤◌}
use Rattle.crew_workers.proofs.turns.run_in_turns.Goals as goal

pub run_cycles-requires-clause-frame : goal.run_cycles-requires-clause-frame
run_cycles-requires-clause-frame g c = record { each = λ k d h. let f = c.longest_frame.ensures k d h in let n = c.in_ok-frame.ensures.len in omega (arith, f, n) }
