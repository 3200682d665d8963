use Rattle.std.proofs.Common.{◌≡◌, drop}
use Rattle.plain_values.proofs.Storing.{named_from}
use Rattle.plain_values.proofs.memory.port_named.Given as goal

abbrev pub invariant-loop-line : goal.invariant-loop-line
invariant-loop-line l = named_from l.name l.memory.lines ≡ named_from l.name (drop l.line-index l.memory.lines)
