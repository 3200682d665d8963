use Rattle.std.proofs.Common.{take}
use Rattle.ground_exprs.specs.Sources.{AreOperands, Leads}
use Rattle.ground_exprs.proofs.exprs.+lower.Given as goal

abbrev pub invariant-lower_operands-loop-operand : goal.invariant-lower_operands-loop-operand
invariant-lower_operands-loop-operand l = AreOperands l.known.entries l.operands l.operand-index l.sources

abbrev pub invariant-follow-loop-suffix : goal.invariant-follow-loop-suffix
invariant-follow-loop-suffix l = Leads l.known.entries l.fn.name.id (take l.suffix-index l.suffixes) l.view.at.typ.now l.view.part
