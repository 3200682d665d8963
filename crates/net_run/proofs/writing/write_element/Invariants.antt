use Rattle.std.proofs.Common.{◌≡◌, length}
use Rattle.net_run.specs.Writing.{put_leaves}
use Rattle.net_run.proofs.writing.write_element.Given as goal

abbrev pub invariant-loop-leaf : goal.invariant-loop-leaf
invariant-loop-leaf l = l.held.items ≡ put_leaves l.values l.write l.address (length l.memory.elements) l.leaf l.fn.held.items
