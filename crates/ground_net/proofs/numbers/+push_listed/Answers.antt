use Rattle.std.proofs.Common.{◌+◌, ◌*◌, ◌++◌, ap, ◌∙◌}
use Rattle.ground_net.specs.Numbers.{listed}
use Rattle.ground_net.proofs.Stretches.{row_more}
use Rattle.ground_net.proofs.numbers.+push_listed.Goals as goal

pub loop-number-preserved : goal.loop-number-preserved
loop-number-preserved t c =
    row_more (λ k. listed c.in-Some.rest.now (c.args.first + k * c.in-Some.span.now.stride)) c.args.row.now.items c.loop-number.row.items c.push_listed.new.row.items c.loop-number.number
    c.loop-number.invariant
    (c.in_ok-push_listed.ensures ∙ ap (λ x. c.loop-number.row.items ++ listed c.in-Some.rest.now x) c.in_ok-at_stride.ensures)
