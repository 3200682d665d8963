use Rattle.std.proofs.Common.{◌≡◌, All, Some, refl, sym, subst, ap, ◌∙◌}
use Rattle.std.specs.Prelude.{Ok, IfSome}
use Rattle.prim_ops.specs.Values.{operation}
use Rattle.ground_net.specs.Shapes.{Shape, shaped, shape_of_row}
use Rattle.flat_code.specs.declared.instr.Form.TheVariants as form
use Rattle.flat_code.specs.Fine.{location_shapes}
use Rattle.code_draft.specs.Drafts.{IsDraft, Stands, Makes}
use Rattle.code_emit.specs.Ways.{IsMade, Reckons, row_value}
use Rattle.code_emit.proofs.Shaped.{ok_so}
use Rattle.code_emit.proofs.Arms.{ok_both, location_shape_by}
use Rattle.code_emit.proofs.Emitting.{wide_after}
use Rattle.flat_code.specs.Fine.{location_slots, slots_of}
use Rattle.code_emit.proofs.Spanning.{step_after}
use Rattle.code_emit.proofs.Following.{row_some, step_follows, reckons_follow}
use Rattle.code_emit.proofs.values.emit_operation.Goals as goal

pub returns-in_ok-from_slice-in-None-clause-makes : goal.returns-in_ok-from_slice-in-None-clause-makes
returns-in_ok-from_slice-in-None-clause-makes c =
    let d = c.args.draft.now in
    let prim = c.args.prim in
    let ps = c.args.params.now in
    let qs = c.in_ok-from_slice-in-None.field-0 in
    let kind = c.row_measure-measure.result.kind in
    let width = c.row_measure-measure.result.width in
    let ss = c.args.locations in
    let e = c.wide_value.ensures in
    let same = c.operation_word.ensures.none (c.in_ok-location.was ∙ ap Ok c.in-None.is) in
    let copied : qs ≡ ps = c.in_ok-from_slice-in-None.ensures in
    let row : shape_of_row prim ps (location_shapes ss) ≡ Some (shaped kind width) = ap (λ xs. shape_of_row prim ps (location_shapes xs)) (sym c.as_slice.ensures) ∙ c.row_measure-measure.ensures in
    ok_so c.wide_value.result (ok_both _ _ c.wide_value.result (ok_both _ _ c.wide_value.result e.shape e.width) e.makes) (λ s h.
    subst (λ (t : Shape). IsDraft d → All (Stands d) ss → Makes d c.wide_value.new.draft s (IsMade (row_value prim ps) ss t)) (sym (location_shape_by s kind width h.0.0 h.0.1))
    (wide_after d c.operation_word.new.draft c.wide_value.new.draft s ss (form.Apply prim qs) (row_value prim ps) (shaped kind width) same (λ words vs. ap (operation prim vs) (sym copied)) h.1
    (ap (λ xs. shape_of_row prim xs (location_shapes ss)) copied ∙ row) refl))

pub returns-in_ok-from_slice-in-None-clause-follows : goal.returns-in_ok-from_slice-in-None-clause-follows
returns-in_ok-from_slice-in-None-clause-follows c =
    let d = c.args.draft.now in
    let ss = c.args.locations in
    let new = c.wide_value.new.draft in
    let same = c.operation_word.ensures.none (c.in_ok-location.was ∙ ap Ok c.in-None.is) in
    ok_so c.wide_value.result c.wide_value.ensures.step (λ s st.
    step_follows ss d new s (row_some c.args.prim c.args.params.now ss c.requires) (step_after d c.operation_word.new.draft new (slots_of ss) (location_slots s) same st))

pub returns-in-Some-clause-follows : goal.returns-in-Some-clause-follows
returns-in-Some-clause-follows c =
    let d = c.args.draft.now in
    let e = c.operation_word.new.draft in
    let ss = c.args.locations in
    let s = c.in-Some.location in
    let reckons = subst (λ o. IfSome o (λ t. Reckons c.as_slice-2.result.now d e t)) c.in-Some.is c.in_ok-location.ensures.reckons in
    reckons_follow ss d e s (row_some c.args.prim c.args.params.now ss c.requires) (subst (λ ts. Reckons ts d e s) c.as_slice-2.ensures reckons)
