use Rattle.std.proofs.Common.{◌≢◌, ℕ, ◌<◌, ◌≤◌, length, slice_index}
use Rattle.cut_refine.proofs.targets.most_but.Given as goal

abbrev pub invariant-loop-other : goal.invariant-loop-other
invariant-loop-other l = record {
  within : l.best < l.other;
  inside : l.other ≤ length l.costs;
  apart : l.best ≢ l.part;
  most : (p : ℕ) → p < l.other → p ≢ l.part → slice_index l.costs p ≤ slice_index l.costs l.best;
}
