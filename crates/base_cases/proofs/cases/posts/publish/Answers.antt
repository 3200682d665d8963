use Rattle.std.proofs.Common.{◌≡◌, ◌+◌, ◌*◌, ◌/◌, ap, sym, ◌∙◌, arith}
use lib.ListN.{get_elem?}
use Rattle.phase_core.specs.declared.model.Script.{Script}
use Rattle.phase_core.specs.declared.model.View.{View}
use Rattle.phase_core.specs.Script.{publications}
use Rattle.phase_core.specs.Sound.{part_of}
use Rattle.phase_core.proofs.Lists.{at_index}
use Rattle.base_cases.proofs.cases.posts.publish.Goals as goal

pub publish-requires-clause-next : goal.publish-requires-clause-next
publish-requires-clause-next g c =
    let s = g.N.Plan.script in let w = c.args.worker in let i = c.loop-publication.publication-index in let items = c.part-publication-items.result.now in
    let half : (2 * c.args.cycle + 1) / 2 ≡ c.args.cycle = omega arith in
    ap (λ (v : View). get_elem? (part_of s v) v.done) c.loop-publication.invariant.view_is
    ∙ ap (λ n. get_elem? (publications s n w) i) half
    ∙ ap (λ (t : Script). get_elem? (publications t c.args.cycle w) i) c.requires.script
    ∙ ap (λ l. get_elem? l i) (sym c.part-publication-items.ensures)
    ∙ at_index items i (record { word = 0; value = 0 }) c.loop-publication-test.true
