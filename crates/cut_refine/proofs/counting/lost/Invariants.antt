use Rattle.std.proofs.Common.{◌≡◌, take}
use Rattle.std.specs.Prelude.{count_by, slice_index, ◌==◌}
use Rattle.cut_refine.proofs.counting.lost.Given as goal

abbrev pub invariant-loop-leaf : goal.invariant-loop-leaf
invariant-loop-leaf l = l.lost ≡ count_by (λ x. slice_index l.counts x == 1) (take l.leaf-index l.cone)
