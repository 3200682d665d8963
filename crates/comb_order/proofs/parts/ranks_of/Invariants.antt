use Rattle.std.proofs.Common.{length}
use Rattle.comb_order.specs.Parts.{IsWithin}
use Rattle.comb_order.proofs.parts.ranks_of.Given as goal

abbrev pub invariant-loop-root : goal.invariant-loop-root
invariant-loop-root l = IsWithin (length l.reads) l.parts

abbrev pub invariant-loop : goal.invariant-loop
invariant-loop l = IsWithin (length l.reads) l.parts
