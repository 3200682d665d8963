use Rattle.std.proofs.Common.{rules, ap, sym, ◌∙◌}
use Rattle.size_check.specs.Standings.{calls_in}
use Rattle.size_check.proofs.Summing.{next_from}
use Rattle.size_check.proofs.rounds.next_round.Goals as goal

pub loop-number-preserved : goal.loop-number-preserved
loop-number-preserved c d h =
    next_from c.args.names.now c.args.modules.now.all.now d c.args.owns.now c.loop-number.number c.index-modules-number.result c.own_at.result c.as_slice.result.now c.with_calls.result
    c.loop-number.next.items c.push.new.self.items (search rules) c.index-modules-number.is c.requires c.own_at.ensures (c.as_slice.ensures.value ∙ c.in_ok-calls.ensures ∙ ap calls_in (sym c.index-modules-number.is))
    (λ before e. c.with_calls.ensures d before e h) (c.loop-number.invariant d h) c.in_ok-push.ensures.items
