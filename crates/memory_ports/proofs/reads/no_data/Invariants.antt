use Rattle.std.proofs.Common.{◌≡◌, replicate, None}
use Rattle.memory_ports.proofs.reads.no_data.Given as goal

abbrev pub invariant-loop : goal.invariant-loop
invariant-loop l = l.marks.items ≡ replicate l.counter None
