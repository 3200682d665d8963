use Rattle.std.proofs.Common.{take}
use Rattle.part_compile.specs.PartRows.{SoFar}
use Rattle.part_compile.specs.Telling.{TellsInPieces}
use Rattle.part_compile.proofs.adding.made_of.Given as goal

abbrev pub invariant-loop-number : goal.invariant-loop-number
invariant-loop-number l =
    SoFar l.work.plan.now.net.now l.work.plan.now.watch.now l.work.sources.now l.fn.draft (take l.number-index l.part.sinks) l.made
    × TellsInPieces l.work.plan.now.net.now l.work.plan.now.watch.now l.part l.work.sources.now l.fn.draft l.made
