use Rattle.std.proofs.Common.{ℕ, ◌≡◌, ◌+◌, vec_len, vec_capacity, vec_items}
use Rattle.worker_crew.specs.Crew.{Fresh, Done}
use Rattle.crew_workers.specs.Standing.{Each}
use Rattle.worker_crew.specs.Numbers.{held, lent}
use Rattle.worker_crew.specs.Threads.{Promised}
use Rattle.worker_crew.proofs.collect.join_all.Given as goal

abbrev pub invariant-loop-handle : goal.invariant-loop-handle
invariant-loop-handle g l = record {
  len : vec_len l.started + vec_len l.roster.mine + vec_len l.roster.done ≡ vec_len l.initial.started + vec_len l.initial.roster.mine + vec_len l.initial.roster.done;
  numbers : (k : ℕ) → lent k (vec_items l.started) + held k (vec_items l.roster.mine) + held k (vec_items l.roster.done) ≡ lent k (vec_items l.initial.started) + held k (vec_items l.initial.roster.mine) + held k (vec_items l.initial.roster.done);
  room_mine : vec_capacity l.roster.mine ≡ vec_capacity l.initial.roster.mine;
  room_done : vec_capacity l.roster.done ≡ vec_capacity l.initial.roster.done;
  started : Promised l.shared (vec_items l.started);
  mine : Each (Fresh l.shared) (vec_items l.roster.mine);
  done : Each (Done l.shared) (vec_items l.roster.done);
}

abbrev pub decreases-loop-handle : goal.decreases-loop-handle
decreases-loop-handle g l = vec_len l.started
