use Rattle.std.proofs.Common.{◌≡◌}
use Rattle.part_compile.proofs.ToldReads.{told_below}
use Rattle.part_compile.proofs.captured.captured_reads.Given as goal

abbrev pub invariant-loop-number : goal.invariant-loop-number
invariant-loop-number l = l.reads ≡ told_below l.net l.number
