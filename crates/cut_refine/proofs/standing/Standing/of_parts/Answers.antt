use Rattle.std.proofs.Common.{◌≡◌, ◌+◌, length, slice_get, Some, sym, subst, ap, ◌∙◌}
use Rattle.std.specs.Vec.{with_items}
use Rattle.std.proofs.lemmas.Option.{slice_get-get_or}
use Rattle.cone_cutter.specs.Loads.{Gets}
use Rattle.cone_cutter.proofs.LoadSteps.{refilled}
use Rattle.cut_refine.specs.Standing.{AreParted, Owns}
use Rattle.cut_refine.proofs.Tables.{parted_more, costs_more}
use Rattle.cut_refine.proofs.standing.Standing.of_parts.Goals as goal

pub loop-number-preserved : goal.loop-number-preserved
loop-number-preserved c =
    let inv = c.loop-number.invariant in
    let parts = c.args.parts.now in
    let n = c.loop-number.number in
    let part = c.index-parts-number.result in
    let lt = c.loop-number-test.true in
    let owned = refilled c.loop-number.owners c.own.new.owners (c.own.ensures.long ∙ ap length c.as_mut_slice.ensures.value) in
    let held = refilled c.loop-number.masks c.give.new.masks (c.give.ensures.long ∙ ap length c.as_mut_slice-in-loop-number.ensures.value) in
    let there : slice_get c.args.parts.now c.loop-number.number ≡ Some c.index-parts-number.result = slice_get-get_or parts n part lt ∙ ap Some (sym c.index-parts-number.is) in
    let owns = subst (λ s. Owns c.loop-number.number s c.loop-number.owners.items c.own.new.owners) c.as_slice.ensures
    (subst (λ o. Owns c.loop-number.number c.as_slice.result.now o c.own.new.owners) c.as_mut_slice.ensures.value c.own.ensures) in
    let gets = subst (λ s. Gets c.loop-number.number s c.loop-number.masks.items c.give.new.masks) c.as_slice-in-loop-number.ensures
    (subst (λ m. Gets c.loop-number.number c.as_slice-in-loop-number.result.now m c.give.new.masks) c.as_mut_slice-in-loop-number.ensures.value c.give.ensures) in
    let more = parted_more n parts c.loop-number.owners.items c.loop-number.masks.items c.own.new.owners c.give.new.masks part inv.parted there owns gets c.requires.apart in
    record {
      owners = ap length owned ∙ (owns.long ∙ inv.owners);
      masks = ap length held ∙ (gets.long ∙ inv.masks);
      costs = costs_more parts n part c.loop-number.costs.items c.push.new.self.items c.len.result lt c.index-parts-number.is inv.costs c.len.ensures c.in_ok-push.ensures.items;
      parted = subst (λ o. AreParted (c.loop-number.number + 1) c.args.parts.now o (with_items c.loop-number.masks c.give.new.masks).items) (sym owned) (subst (λ m. AreParted (c.loop-number.number + 1) c.args.parts.now c.own.new.owners m) (sym held) more);
    }
