use Rattle.std.proofs.Common.{take}
use Rattle.ground_statements.specs.Bodies.{IsBody}
use Rattle.ground_statements.specs.Arms.{AreArms}
use Rattle.ground_statements.proofs.body.+body.Given as goal

abbrev pub invariant-lower_arms-loop-arm : goal.invariant-lower_arms-loop-arm
invariant-lower_arms-loop-arm l = AreArms l.known.entries l.settable (take l.arm-index l.arms) l.before l.behind l.made

abbrev pub invariant-lower_body-loop-statement : goal.invariant-lower_body-loop-statement
invariant-lower_body-loop-statement l = IsBody l.known.entries l.settable (take l.statement-index l.body) l.before l.behind l.made
