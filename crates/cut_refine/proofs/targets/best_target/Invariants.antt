use Rattle.std.proofs.Common.{◌≡◌, ◌≢◌, ℕ, ◌+◌, ◌-◌, ◌<◌, ◌≤◌, length, slice_index}
use Rattle.std.specs.Prelude.{max}
use Rattle.cut_refine.proofs.targets.best_target.Given as goal

abbrev pub invariant-loop-other : goal.invariant-loop-other
invariant-loop-other l = record {
  within : l.best.part < l.other;
  inside : l.other ≤ length l.costs;
  apart : l.best.part ≢ l.part;
  is : max l.least (slice_index l.costs l.best.part + (l.size - slice_index l.shared l.best.part)) ≡ l.best.greatest;
  low : (p : ℕ) → p < l.other → p ≢ l.part → l.best.greatest ≤ max l.least (slice_index l.costs p + (l.size - slice_index l.shared p));
  lowest : (p : ℕ) → p < l.best.part → p ≢ l.part → l.best.greatest < max l.least (slice_index l.costs p + (l.size - slice_index l.shared p));
}
