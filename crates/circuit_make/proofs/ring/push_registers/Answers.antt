use Rattle.std.proofs.Common.{◌∙◌, ◌++◌, ap, arith}
use Rattle.circuit_make.specs.Rings.{register_line}
use Rattle.circuit_make.proofs.Ranges.{one_more}
use Rattle.circuit_make.proofs.ring.push_registers.Goals as goal

pub loop-i-preserved : goal.loop-i-preserved
loop-i-preserved c =
    c.in_ok-push_register.ensures ∙ ap (λ t. t ++ register_line c.loop-i.i) c.loop-i.invariant ∙ one_more register_line c.args.text.now.items 0 c.loop-i.i c.loop-i.i (omega arith)
