use Rattle.std.proofs.Common.{ℕ, ◌≡◌, ◌+◌, length, vec_len, vec_capacity, vec_items}
use Rattle.worker_crew.specs.Crew.{Done}
use Rattle.crew_workers.specs.Standing.{Each}
use Rattle.worker_crew.specs.Numbers.{held}
use Rattle.worker_crew.proofs.collect.settle.Given as goal

abbrev pub invariant-loop-worker : goal.invariant-loop-worker
invariant-loop-worker g l = record {
  frame : length l.frame ≡ length l.initial.frame;
  len : vec_len l.roster.mine + vec_len l.roster.done ≡ vec_len l.initial.roster.mine + vec_len l.initial.roster.done;
  numbers : (k : ℕ) → held k (vec_items l.roster.mine) + held k (vec_items l.roster.done) ≡ held k (vec_items l.initial.roster.mine) + held k (vec_items l.initial.roster.done);
  room_mine : vec_capacity l.roster.mine ≡ vec_capacity l.initial.roster.mine;
  room_done : vec_capacity l.roster.done ≡ vec_capacity l.initial.roster.done;
  mine : Each (Done l.shared) (vec_items l.roster.mine);
  done : Each (Done l.shared) (vec_items l.roster.done);
}

abbrev pub decreases-loop-worker : goal.decreases-loop-worker
decreases-loop-worker g l = vec_len l.roster.mine
