use Rattle.std.proofs.Common.{◌≡◌, length}
use Rattle.drive_check.specs.Noted.{AreNoted}
use Rattle.drive_check.proofs.noted.notes_of.Given as goal

abbrev pub invariant-loop-typ : goal.invariant-loop-typ
invariant-loop-typ l = record {
  noted : AreNoted l.types l.notes.items;
  length : length l.notes.items ≡ l.typ-index;
}
