use Rattle.std.proofs.Common.{◌≡◌, All, Some, refl, sym, subst, ap, ◌∙◌}
use Rattle.std.specs.Prelude.{Ok}
use Rattle.ground_net.specs.Grounds.{chosen}
use Rattle.ground_net.specs.Shapes.{Shape, shaped, shape_of_choice}
use Rattle.flat_code.specs.declared.instr.Form.TheVariants as form
use Rattle.flat_code.specs.Fine.{location_shapes}
use Rattle.code_draft.specs.Drafts.{IsDraft, Stands, Makes}
use Rattle.code_emit.specs.Ways.{IsMade}
use Rattle.code_emit.proofs.Shaped.{ok_so}
use Rattle.code_emit.proofs.Arms.{ok_both, location_shape_by}
use Rattle.code_emit.proofs.Emitting.{wide_after}
use Rattle.flat_code.specs.Fine.{location_slots, slots_of}
use Rattle.code_emit.proofs.Spanning.{step_after}
use Rattle.code_emit.proofs.values.emit_one_choice.Goals as goal

pub returns-in-None-clause-makes : goal.returns-in-None-clause-makes
returns-in-None-clause-makes c =
    let d = c.args.draft.now in
    let kind = c.choice_measure-measure.result.kind in
    let width = c.choice_measure-measure.result.width in
    let ss = c.args.locations in
    let e = c.wide_value.ensures in
    let same = c.choice_word.ensures.none (c.in_ok-location.was ∙ ap Ok c.in-None.is) in
    let row : shape_of_choice (location_shapes ss) ≡ Some (shaped kind width) = ap (λ xs. shape_of_choice (location_shapes xs)) (sym c.as_slice.ensures) ∙ c.choice_measure-measure.ensures in
    ok_so c.wide_value.result (ok_both _ _ c.wide_value.result (ok_both _ _ c.wide_value.result e.shape e.width) e.makes) (λ s h.
    subst (λ (t : Shape). IsDraft d → All (Stands d) ss → Makes d c.wide_value.new.draft s (IsMade chosen ss t)) (sym (location_shape_by s kind width h.0.0 h.0.1))
    (wide_after d c.choice_word.new.draft c.wide_value.new.draft s ss form.Choose chosen (shaped kind width) same (λ words vs. refl) h.1 row refl))

pub returns-in-None-clause-step : goal.returns-in-None-clause-step
returns-in-None-clause-step c =
    let same = c.choice_word.ensures.none (c.in_ok-location.was ∙ ap Ok c.in-None.is) in
    ok_so c.wide_value.result c.wide_value.ensures.step (λ s st. step_after c.args.draft.now c.choice_word.new.draft c.wide_value.new.draft (slots_of c.args.locations) (location_slots s) same st)
