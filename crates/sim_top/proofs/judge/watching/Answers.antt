use Rattle.std.proofs.Common.{refl}
use Rattle.sim_top.proofs.judge.watching.Goals as goal

pub watched_numbers-requires : goal.watched_numbers-requires
watched_numbers-requires c = c.requires.built.1.watched

pub returns : goal.returns
returns c = (
  c.in_ok-watch.watch,
  refl,
  record {
    text = c.requires.built.0;
    is_built = c.requires.built.1;
    formed = c.requires.formed;
    are_watched = c.in_ok-watch.ensures.watch;
    are_leaves = c.in_ok-watch.ensures.leaves;
  },
)
