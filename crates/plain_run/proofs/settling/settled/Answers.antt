use Rattle.std.proofs.Common.{map, take, sym, ap, ◌∙◌, subst, arith}
use Rattle.fir_meaning.specs.States.{Settled}
use Rattle.drive_check.specs.Keys.{leaf_of_key}
use Rattle.settling_laws.specs.Sweeps.{swept}
use Rattle.plain_cycle.specs.Layouts.{all_flat}
use Rattle.plain_cycle.specs.Given.{given_by}
use Rattle.plain_cycle.specs.Runs.{design_in, state_of}
use Rattle.plain_run.proofs.Counts.{leaf_count, none_swept, site_more, all_there}
use Rattle.plain_run.proofs.AllLeaves.{are_leaves}
use Rattle.plain_run.proofs.settling.settled.Goals as goal

pub loop-site-init : goal.loop-site-init
loop-site-init c =
    let run = c.args.run.now in
    none_swept (design_in run) (state_of run.sites.now c.args.held.now) (given_by (map leaf_of_key run.inputs.now) c.args.row.now) run.sites.now c.new-values.result c.new-values.ensures

pub loop-site-preserved : goal.loop-site-preserved
loop-site-preserved c =
    let run = c.args.run.now in
    let sites = run.sites.now in
    let after = swept (design_in run) (state_of sites c.args.held.now) (given_by (map leaf_of_key run.inputs.now) c.args.row.now) in
    c.in_ok-after.ensures (leaf_count (take c.loop-site.site-index sites)) c.loop-site.invariant
    ∙ ap after (site_more sites c.loop-site.site-index c.site-item.result c.as_slice.result.now (omega arith) c.site-item.is c.as_slice.ensures)

pub returns : goal.returns
returns c =
    let run = c.args.run.now in
    let sites = run.sites.now in
    let design = design_in run in
    let state = state_of sites c.args.held.now in
    let given = given_by (map leaf_of_key run.inputs.now) c.args.row.now in
    let layout = c.requires.run.layout in
    let can = c.requires.settles in
    subst (Settled design state given) (sym (c.loop-site.invariant ∙ ap (swept design state given) (all_there design sites run.declared.now layout c.loop-site.site-index (omega arith))))
    (c.sweeps_settle.ensures run.fitted.now (all_flat layout.all) c.requires.run.well can.initialized can.loopless (are_leaves run.fitted.now c.requires.run.well layout.all layout.are) state given)
