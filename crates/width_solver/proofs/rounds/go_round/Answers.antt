use Rattle.std.proofs.Common.{drop, ◌+◌}
use Rattle.std.proofs.lemmas.List.{drop_more}
use Rattle.width_solver.proofs.rounds.go_round.Goals as goal

pub loop-number-preserved : goal.loop-number-preserved
loop-number-preserved c = record {
  stands = c.in_ok-look.ensures.stands (drop (c.loop-number.number-index + 1) c.args.pending.now) (rw (drop_more c.args.pending.now _ 0 c.loop-number-test.true) at c.loop-number.invariant.stands);
  rises = c.in_ok-look.ensures.rises _ c.loop-number.invariant.rises;
}
