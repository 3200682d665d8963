use Rattle.std.proofs.Common.{◌≡◌, ◌+◌, ◌-◌, length, slice_index, slice_set, subst, ap, ◌∙◌, arith}
use Rattle.std.specs.Vec.{with_items}
use Rattle.std.proofs.lemmas.List.{length-set}
use Rattle.cone_cutter.specs.declared.loads.Load.{Load}
use Rattle.cone_cutter.specs.Loads.{shared_by, IsCheapest, Gets}
use Rattle.cone_cutter.proofs.LoadSteps.{takes, refilled}
use Rattle.cone_cutter.proofs.loads.Load.take.Goals as goal

pub returns : goal.returns
returns c =
    let cone = c.args.cone.now in
    let old = c.args.self.now in
    let part = c.cheapest-part.result in
    let shared = c.count_shared.new.shared in
    let spent = slice_set c.as_mut_slice-costs.result.now c.cheapest-part.result (slice_index c.as_mut_slice-costs.result.now c.cheapest-part.result + (length c.args.cone.now - slice_index c.count_shared.new.shared c.cheapest-part.result)) in
    let new : Load = record { masks = with_items c.args.self.now.masks c.give.new.masks; costs = with_items c.args.self.now.costs spent; shared = with_items c.args.self.now.shared c.count_shared.new.shared } in
    let long : length c.count_shared.new.shared ≡ length c.args.self.now.shared.items = c.count_shared.auto.shared ∙ ap length c.as_mut_slice-shared.ensures.value in
    takes cone old new c.give.new.masks shared part (ap length (refilled old.shared shared long) ∙ long)
    (λ p lt. c.count_shared.ensures p (omega (arith, lt, long, c.requires.shared)) ∙ ap (λ m. shared_by m cone p) c.as_mut_slice-masks.ensures.value)
    (subst (λ s. IsCheapest (λ p. slice_index s p + (length c.args.cone.now - slice_index c.count_shared.new.shared p)) (length s) c.cheapest-part.result) c.as_mut_slice-costs.ensures.value c.cheapest-part.ensures)
    (refilled old.masks c.give.new.masks (c.give.auto.masks ∙ ap length c.as_mut_slice-masks.ensures.value))
    (subst (λ m. Gets c.cheapest-part.result c.args.cone.now m c.give.new.masks) c.as_mut_slice-masks.ensures.value c.give.ensures)
    (refilled old.costs spent (length-set c.as_mut_slice-costs.result.now part _ ∙ ap length c.as_mut_slice-costs.ensures.value)
    ∙ ap (λ s. slice_set s part (slice_index s part + (length cone - slice_index shared part))) c.as_mut_slice-costs.ensures.value)
