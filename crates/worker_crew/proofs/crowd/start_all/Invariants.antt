use Rattle.std.proofs.Common.{ℕ, ◌≡◌, ◌+◌, ◌≤◌, vec_len, vec_capacity, vec_items}
use Rattle.worker_crew.specs.Crew.{Fresh, Done}
use Rattle.crew_workers.specs.Standing.{Each}
use Rattle.worker_crew.specs.Frames.{Frames}
use Rattle.worker_crew.specs.Numbers.{held, lent}
use Rattle.worker_crew.specs.Threads.{Promised}
use Rattle.worker_crew.proofs.crowd.start_all.Given as goal

abbrev pub invariant-loop-worker : goal.invariant-loop-worker
invariant-loop-worker g l = record {
  frames : vec_len l.workers ≤ vec_len l.frames;
  frame : Frames l.orders.shared.now.room (vec_items l.frames);
  len : vec_len l.rooms.started + vec_len l.rooms.roster.mine + vec_len l.rooms.roster.done + vec_len l.workers ≡ vec_len l.initial.workers;
  numbers : (k : ℕ) → lent k (vec_items l.rooms.started) + held k (vec_items l.rooms.roster.mine) + held k (vec_items l.rooms.roster.done) + held k (vec_items l.workers) ≡ held k (vec_items l.initial.workers);
  room_started : vec_len l.initial.workers ≤ vec_capacity l.rooms.started;
  room_mine : vec_capacity l.rooms.roster.mine ≡ vec_capacity l.initial.rooms.roster.mine;
  room_done : vec_capacity l.rooms.roster.done ≡ vec_capacity l.initial.rooms.roster.done;
  fresh : Each (Fresh l.orders.shared.now) (vec_items l.workers);
  started : Promised l.orders.shared.now (vec_items l.rooms.started);
  mine : Each (Fresh l.orders.shared.now) (vec_items l.rooms.roster.mine);
  done : Each (Done l.orders.shared.now) (vec_items l.rooms.roster.done);
}

abbrev pub decreases-loop-worker : goal.decreases-loop-worker
decreases-loop-worker g l = vec_len l.workers
