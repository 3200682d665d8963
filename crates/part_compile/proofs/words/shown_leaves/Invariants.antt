use Rattle.std.proofs.Common.{◌≡◌, take, map}
use Rattle.part_compile.proofs.words.shown_leaves.Given as goal

abbrev pub invariant-loop-read : goal.invariant-loop-read
invariant-loop-read l = l.leaves ≡ map (λ read. read.leaf) (take l.read-index l.reads)
