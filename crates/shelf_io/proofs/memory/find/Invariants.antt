use Rattle.std.proofs.Common.{◌≡◌, drop}
use Rattle.shelf_io.specs.HeldTexts.{text_of}
use Rattle.shelf_io.proofs.memory.find.Given as goal

abbrev pub invariant-loop-i : goal.invariant-loop-i
invariant-loop-i l = text_of l.texts l.name ≡ text_of (drop l.i l.texts) l.name
