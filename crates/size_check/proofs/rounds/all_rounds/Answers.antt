use Rattle.std.proofs.Common.{ap, sym, ◌∙◌, add-one}
use Rattle.size_check.specs.Rounds.{totals_at}
use Rattle.size_check.proofs.Summing.{first_totals, same_number}
use Rattle.size_check.proofs.rounds.all_rounds.Goals as goal

pub loop-init : goal.loop-init
loop-init c = first_totals c.args.names.now c.args.modules.now.all.now c.args.owns.now c.in_ok-totals.totals.items c.requires c.in_ok-totals.ensures

pub loop-preserved : goal.loop-preserved
loop-preserved c =
    c.in_ok-totals-2.ensures c.loop.counter (c.as_slice.ensures.value ∙ c.loop.invariant)
    ∙ ap (totals_at c.args.names.now c.args.modules.now.all.now) (sym (add-one c.loop.counter))

pub returns : goal.returns
returns c = c.loop.invariant ∙ ap (totals_at c.args.names.now c.args.modules.now.all.now) (same_number c.loop.counter 33 c.loop-test.false c.loop.auto.counter-end)
