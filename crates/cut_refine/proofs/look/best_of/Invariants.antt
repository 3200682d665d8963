use Rattle.std.proofs.Common.{◌≡◌, ℕ, ◌<◌, ◌≤◌, slice_get, Some}
use Rattle.cut_refine.specs.declared.refined.Move.{Move}
use Rattle.cut_refine.proofs.look.best_of.Given as goal

abbrev pub invariant-loop-row : goal.invariant-loop-row
invariant-loop-row l = record {
  low : l.best.greatest ≤ l.greatest;
  chosen : l.best.greatest < l.greatest → (at : ℕ) × (slice_get l.table at ≡ Some l.best) × ((i : ℕ) (move : Move) → i < at → slice_get l.table i ≡ Some move → l.best.greatest < move.greatest);
  least : (i : ℕ) (move : Move) → i < l.row-index → slice_get l.table i ≡ Some move → l.best.greatest ≤ move.greatest;
}
