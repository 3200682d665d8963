use Rattle.std.proofs.Common.{refl, sym, ap, ap₂, ◌∙◌}
use Rattle.std.specs.Prelude.{Ok}
use Rattle.bit_words.specs.Values.{integer_of}
use Rattle.prim_ops.specs.Values.{fitted, lone}
use Rattle.ground_net.specs.Shapes.{shaped, shape_of_fit}
use Rattle.flat_code.specs.declared.instr.Form.TheVariants as form
use Rattle.flat_code.specs.Fine.{location_shapes}
use Rattle.code_emit.specs.Ways.{fit_of_one}
use Rattle.code_emit.proofs.Shaped.{ok_so}
use Rattle.code_emit.proofs.Arms.{ok_both}
use Rattle.code_emit.proofs.Emitting.{wide_after}
use Rattle.flat_code.specs.Fine.{location_slots, slots_of}
use Rattle.code_emit.proofs.Spanning.{step_after}
use Rattle.code_emit.proofs.values.emit_fit.Goals as goal

pub returns-in-None-clause-makes : goal.returns-in-None-clause-makes
returns-in-None-clause-makes c =
    let kind = c.args.kind in
    let width = c.args.width in
    let ss = c.args.locations in
    let e = c.wide_value.ensures in
    let same = c.fit_word.ensures.none (c.in_ok-location.was ∙ ap Ok c.in-None.is) in
    ok_so c.wide_value.result (ok_both _ _ c.wide_value.result (ok_both _ _ c.wide_value.result e.shape e.width) e.makes) (λ s h.
    wide_after c.args.draft.now c.fit_word.new.draft c.wide_value.new.draft s ss form.Fit (fit_of_one kind width) (shaped kind width) same
    (λ words vs. ap₂ (λ k w. fitted k w (integer_of (lone vs))) (sym h.0.0) (sym h.0.1)) h.1 (ap₂ (λ k w. shape_of_fit k w (location_shapes ss)) h.0.0 h.0.1 ∙ c.requires.shape) refl)

pub returns-in-None-clause-step : goal.returns-in-None-clause-step
returns-in-None-clause-step c =
    let same = c.fit_word.ensures.none (c.in_ok-location.was ∙ ap Ok c.in-None.is) in
    ok_so c.wide_value.result c.wide_value.ensures.step (λ s st. step_after c.args.draft.now c.fit_word.new.draft c.wide_value.new.draft (slots_of c.args.locations) (location_slots s) same st)
