use Rattle.std.proofs.Common.{◌≡◌, ℕ, [], length}
use Rattle.width_solver.specs.Readers.{readers_at}
use Rattle.width_solver.proofs.readers.no_readers.Given as goal

abbrev pub invariant-loop : goal.invariant-loop
invariant-loop l = record {
  counted : length l.readers.items ≡ l.counter;
  none : (x : ℕ) → readers_at l.readers.items x ≡ [];
}
