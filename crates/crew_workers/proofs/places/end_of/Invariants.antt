use Rattle.std.proofs.Common.{◌≤◌, ◌<◌, ℕ, length, get_or}
use Rattle.crew_workers.specs.Spreads.{AreBelow}
use Rattle.crew_workers.proofs.places.end_of.Given as goal

abbrev pub invariant-loop-j : goal.invariant-loop-j
invariant-loop-j l = record {
  below : (i : ℕ) → i < l.j → get_or l.positions i 0 < l.end;
  more : l.width ≤ l.end;
  least : (n : ℕ) → l.width ≤ n → AreBelow n l.positions → l.end ≤ n;
}
