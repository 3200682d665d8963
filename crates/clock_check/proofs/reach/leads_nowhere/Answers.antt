use Rattle.std.proofs.Common.{◌≡◌, ◌∙◌, ap, sym, map, take, ◌+◌}
use Rattle.fir_meaning.specs.Mentions.{Region, follow_all, suffix_onward}
use Rattle.drive_check.proofs.Following.{follow_more}
use Rattle.clock_check.proofs.Reaching.{ends_stay}
use Rattle.clock_check.proofs.reach.leads_nowhere.Goals as goal
use Rattle.clock_check.proofs.reach.leads_nowhere.Goals.{then-nowhere, else-nowhere}

pub loop-suffix-preserved : goal.loop-suffix-preserved
loop-suffix-preserved c = λ types id is.
    let k = c.loop-suffix.suffix-index in
    let before : Region = follow_all types id (map suffix_onward (take k c.args.suffixes.now)) in
    let held = c.loop-suffix.invariant types id is in
    let step : follow_all types id (map suffix_onward (take (k + 1) c.args.suffixes.now)) ≡ suffix_onward c.suffix-item.result types before =
    follow_more types id c.args.suffixes.now k c.suffix-item.result c.loop-suffix-test.true c.suffix-item.is in (
      ap (λ (r : Region). r.typ) step ∙ c.step_part-found.ensures types before held.0,
      λ is_so. ap (λ (r : Region). r.ways) step ∙ (elim c.if-nowhere.branch [
        | then-nowhere w ↦ ends_stay c.suffix-item.result types before (held.1 w.if-nowhere.true)
        | else-nowhere w ↦ w.has_no_element-nowhere.ensures (sym w.nowhere-is ∙ is_so) types before held.0
      ]),
    )
