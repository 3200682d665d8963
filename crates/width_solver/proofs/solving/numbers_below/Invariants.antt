use Rattle.std.proofs.Common.{◌<◌, ℕ, All}
use Rattle.std.specs.List.{Contains}
use Rattle.width_solver.proofs.solving.numbers_below.Given as goal

abbrev pub invariant-loop-number : goal.invariant-loop-number
invariant-loop-number l = record {
  within : All (λ k. k < l.end) l.numbers.items;
  all : (k : ℕ) → k < l.number → Contains l.numbers.items k;
}
