use Rattle.std.proofs.Common.{ap, sym, ◌∙◌}
use lib.ListN.{get_elem?}
use Rattle.phase_core.specs.declared.model.View.{View}
use Rattle.phase_core.specs.Sound.{part_of}
use Rattle.phase_core.proofs.Lists.{at_index}
use Rattle.crew_workers.proofs.calls.publish_each.Goals as goal

pub publish-requires-clause-next : goal.publish-requires-clause-next
publish-requires-clause-next g c =
    let s = g.N.Plan.script in let i = c.loop-publication.publication-index in let items = c.args.publications.now in
    ap (λ (v : View). get_elem? (part_of s v) v.done) c.loop-publication.invariant.view_is
    ∙ ap (λ l. get_elem? l i) (sym c.requires.all)
    ∙ at_index items i (record { word = 0; value = 0 }) c.loop-publication-test.true
