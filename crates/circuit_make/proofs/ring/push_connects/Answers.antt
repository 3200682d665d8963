use Rattle.std.proofs.Common.{◌∙◌, ◌++◌, ap, arith}
use Rattle.circuit_make.specs.Rings.{connect_line}
use Rattle.circuit_make.proofs.Ranges.{one_more}
use Rattle.circuit_make.proofs.ring.push_connects.Goals as goal

pub loop-i-preserved : goal.loop-i-preserved
loop-i-preserved c =
    c.in_ok-push_connect.ensures ∙ ap (λ t. t ++ connect_line c.args.n c.loop-i.i) c.loop-i.invariant
    ∙ one_more (connect_line c.args.n) c.args.text.now.items 0 c.loop-i.i c.loop-i.i (omega arith)
