use Rattle.std.proofs.Common.{refl, ap, Err}
use Rattle.std.proofs.lemmas.Result.{err_from_is_err_and}
use Rattle.ground_net.specs.declared.net.Ordered.{Ordered}
use Rattle.place_text.proofs.Verdicts.{passes}
use Rattle.comb_order.specs.Faults.{IsOrdered}
use Rattle.comb_order.proofs.Verdicts.{refused, has_none}
use Rattle.comb_order.proofs.ordering.order.Goals as goal

pub returns : goal.returns
returns c =
    let ordered : Ordered = record { net = c.args.net; sequence = c.in_ok-sequence.sequence } in
    let made : IsOrdered c.args.net ordered = record { unchanged = refl; sequence = c.in_ok-sequence.ensures.ordered; no_loop = c.in_ok-sequence.ensures.no_loop } in
    passes ordered made (has_none c.args.net c.in_ok-sequence.ensures.no_loop)

pub returns-in_err-sequence : goal.returns-in_err-sequence
returns-in_err-sequence c =
    let p = err_from_is_err_and c.from_residual.result c.from_residual.ensures.1 in
    rw (p.1, p.2) (refused c.args.net c.in_err-sequence.field-0.0 (λ place e. c.in_err-sequence.ensures.looped place (ap Err e)))
