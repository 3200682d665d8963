use Rattle.std.proofs.Common.{take}
use Rattle.partition_code.specs.Codes.{AreCodesOf}
use Rattle.part_compile.specs.Frames.{TakeFewSlots}
use Rattle.part_compile.proofs.compiling.compile.Given as goal

abbrev pub invariant-loop-part : goal.invariant-loop-part
invariant-loop-part l = AreCodesOf l.ordered.net l.watch (take l.part-index l.cut.parts) l.codes × TakeFewSlots l.ordered.net l.watch (take l.part-index l.cut.parts) l.codes
