use Rattle.std.proofs.Common.{map}
use Rattle.item_lines.specs.Items.{in_order, in_block, stmts_of}
use Rattle.item_lines.specs.Lines.{arm_of}
use Rattle.line_stmts.specs.Walks.{Makes}
use Rattle.line_stmts.proofs.walk.+walk.Given as goal

abbrev pub invariant-statements_of-loop-line : goal.invariant-statements_of-loop-line
invariant-statements_of-loop-line l = Makes (in_block (map stmts_of l.yielded)) l.fn.maker l.maker l.made

abbrev pub invariant-arms_of-loop-arm : goal.invariant-arms_of-loop-arm
invariant-arms_of-loop-arm l = Makes (in_order (map arm_of l.yielded)) l.fn.maker l.maker l.made
