use Rattle.line_stmts.proofs.Standing.{SoFar}
use Rattle.line_stmts.proofs.modules.stand.Given as goal

abbrev pub invariant-loop-module : goal.invariant-loop-module
invariant-loop-module l = SoFar l.yielded l.fn.names l.maker l.modules
