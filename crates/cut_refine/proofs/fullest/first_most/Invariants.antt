use Rattle.std.proofs.Common.{ℕ, ◌<◌, ◌≤◌, length, slice_index}
use Rattle.cut_refine.proofs.fullest.first_most.Given as goal

abbrev pub invariant-loop-part : goal.invariant-loop-part
invariant-loop-part l = record {
  within : l.best < l.part;
  inside : l.part ≤ length l.costs;
  most : (p : ℕ) → p < l.part → slice_index l.costs p ≤ slice_index l.costs l.best;
  first : (p : ℕ) → p < l.best → slice_index l.costs p < slice_index l.costs l.best;
}
