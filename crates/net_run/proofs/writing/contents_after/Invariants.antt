use Rattle.std.proofs.Common.{◌≡◌, ◌++◌, drop, map, zip}
use Rattle.std.specs.Vec.Iter.{into_iter_items}
use Rattle.net_run.specs.Writing.{memory_over, contents_over}
use Rattle.net_run.proofs.writing.contents_after.Given as goal

abbrev pub invariant-loop-memory : goal.invariant-loop-memory
invariant-loop-memory l = contents_over l.net.memories l.values l.fn.contents ≡ l.after.items ++ map (memory_over l.values) (zip (drop l.memory-index l.net.memories) (into_iter_items l.rest))
