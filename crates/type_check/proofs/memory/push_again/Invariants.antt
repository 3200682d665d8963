use Rattle.std.proofs.Common.{◌≡◌, ◌++◌, [], take}
use Rattle.type_check.specs.Memories.{again_behind}
use Rattle.type_check.specs.Noted.{Notes}
use Rattle.type_check.proofs.memory.push_again.Given as goal

abbrev pub invariant-loop-line : goal.invariant-loop-line
invariant-loop-line l = record {
  faults : l.faults.items ≡ l.fn.faults.items ++ again_behind [] (take l.line-index l.lines);
  noted : Notes (take l.line-index l.lines) l.said;
}
