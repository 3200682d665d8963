use Rattle.std.proofs.Common.{◌≡◌, ◌+◌, ◌-◌, ◌<◌, ℕ, length, slice_index, subst, ap, ap₂, ◌∙◌, arith}
use Rattle.std.specs.Prelude.{max}
use Rattle.cone_cutter.specs.Loads.{shared_by}
use Rattle.cut_refine.specs.Standing.{IsMostBut, lone, cost_without}
use Rattle.cut_refine.proofs.Bounds.{target_same}
use Rattle.cut_refine.proofs.look.target_of.Goals as goal

pub returns : goal.returns
returns c =
    let cone = c.args.cone.now in
    let part = c.args.full.now.part in
    let far = c.most_but.result in
    let costs = c.as_slice-costs.ensures.value in
    let cost_at = λ (p : ℕ). ap (λ s. slice_index s p) costs in
    let left : c.saturating_sub-left.result ≡ cost_without c.args.standing.now.costs.items c.args.cone.now c.args.full.now.counts.items c.args.full.now.part =
    c.saturating_sub-left.ensures ∙ ap₂ (λ (a b : ℕ). a - b) (cost_at part) (c.lost.ensures ∙ ap (lone cone) c.as_slice-counts.ensures.value) in
    let least : c.max-least.result ≡ max (cost_without c.args.standing.now.costs.items c.args.cone.now c.args.full.now.counts.items c.args.full.now.part) (slice_index c.args.standing.now.costs.items c.most_but.result) =
    c.max-least.ensures ∙ ap₂ (λ (a b : ℕ). max a b) left (cost_at far) in
    let shared = λ (p : ℕ) (lt : p < length c.as_slice-costs.result.now).
    c.count_shared.ensures p (omega (arith, lt, ap length costs, c.requires.room, c.count_shared.auto.shared)) ∙ ap (λ m. shared_by m cone p) c.as_slice-masks.ensures.value in
    let with_cone = λ (p : ℕ) (lt : p < length c.as_slice-costs.result.now). ap₂ (λ (a b : ℕ). a + (length cone - b)) (cost_at p) (shared p lt) in (
      c.most_but.result,
      subst (λ s. IsMostBut s c.args.full.now.part c.most_but.result) costs c.most_but.ensures,
      target_same _ _ (length c.as_slice-costs.result.now) (length c.args.standing.now.costs.items) part c.best_target.result (ap length costs)
          (λ p lt. ap₂ (λ (a b : ℕ). max a b) least (with_cone p lt)) c.best_target.ensures,
    )
