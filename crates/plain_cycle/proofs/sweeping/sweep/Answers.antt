use Rattle.std.proofs.Common.{get_or, ap, arith}
use Rattle.plain_cycle.specs.Runs.{design_in, state_at, given_at, values_at}
use Rattle.plain_cycle.proofs.Parts.{part_there}
use Rattle.plain_cycle.proofs.Sweeps.{swept_more, swept_all}
use Rattle.plain_cycle.proofs.sweeping.sweep.Goals as goal

pub swept-requires-clause-part : goal.swept-requires-clause-part
swept-requires-clause-part c =
    let run = c.args.run.now in
    let y = part_there (design_in run) run.sites.now run.declared.now c.requires.layout c.loop-at.at _ (omega arith) (ap (get_or run.sites.now c.loop-at.at) c.index-run-at.is) (ap (get_or run.declared.now c.loop-at.at) c.index-run-at-in-loop-at.is) in
    (y.0, y.1.is)

pub loop-at-preserved : goal.loop-at-preserved
loop-at-preserved c = λ layout.
    let run = c.args.run.now in
    let moment = c.args.moment.now in
    swept_more (design_in run) (state_at run moment) (given_at run moment) (values_at run moment) run.sites.now run.declared.now layout c.loop-at.at c.loop-at.after c.push.new.self c.in_ok-swept.field-0 (omega arith)
    (ap (get_or run.sites.now c.loop-at.at) c.index-run-at.is) (ap (get_or run.declared.now c.loop-at.at) c.index-run-at-in-loop-at.is) c.in_ok-push.ensures.ok c.in_ok-swept.ensures (c.loop-at.invariant layout)

pub returns : goal.returns
returns c =
    let run = c.args.run.now in
    let moment = c.args.moment.now in
    swept_all (design_in run) (state_at run moment) (given_at run moment) (values_at run moment) run.sites.now run.declared.now c.requires.layout c.loop-at.at c.loop-at.after (omega arith) (c.loop-at.invariant c.requires.layout)
