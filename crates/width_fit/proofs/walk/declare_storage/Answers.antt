use Rattle.std.proofs.Common.{refl, ap, ◌∙◌, map, ◌++◌}
use Rattle.std.proofs.lemmas.Result.{on_ok_weaker}
use Rattle.width_rules.specs.Sources.{known_with}
use Rattle.type_filling.specs.Filling.{filled}
use Rattle.width_fit.specs.Judging.{slot_width, component_faults}
use Rattle.width_fit.specs.Walks.{solved}
use Rattle.fir_tree.specs.declared.part.Part.{Part}
use Rattle.part_fits.proofs.Declared.{fits_of}
use Rattle.width_fit.proofs.Declaring.{storage_walks}
use Rattle.width_fit.proofs.walk.declare_storage.Goals as goal

pub returns-clause-walks : goal.returns-clause-walks
returns-clause-walks c =
    let all = solved c.args.given.now in
    on_ok_weaker c.declare.result
    (storage_walks all c.args.name c.args.typ.now c.in_ok-slots.slots c.in_ok-fitted.fitted c.in_ok-part.part c.args.walk.now _
    c.in_ok-slots.ensures.slots c.in_ok-slots.ensures.places
    (c.in_ok-fitted.ensures ∙ ap (filled c.args.typ.now) (c.as_slice-2.ensures ∙ c.in_ok-widths.ensures ∙ ap (map (slot_width all.widths)) c.as_slice.ensures))
    c.in_ok-push.ensures.items refl
    (c.in_ok-push_component.ensures ∙ ap (λ s. c.args.walk.now.found.faults.items ++ component_faults all c.args.name.place s) c.as_slice-3.ensures)
    c.in_ok-part.ensures)
    (on_ok_weaker c.declare.result (λ e. e ∙ ap (known_with c.args.walk.now.known.entries c.args.name.id) c.in_ok-component.ensures) c.declare.ensures.known)

pub returns-clause-fits : goal.returns-clause-fits
returns-clause-fits c =
    let ws = c.args.given.now.widths.now in
    c.declare.ensures.fits ws c.args.walk.now.choices
    (fits_of ws c.in_ok-component.component c.in_ok-part.part c.in_ok-slots.slots c.args.typ.now c.in_ok-fitted.fitted c.in_ok-widths.widths c.in_ok-fit.fit c.in_ok-component.ensures
    (ap (λ (p : Part). p.typ) c.in_ok-part.ensures) (c.in_ok-widths.ensures ∙ ap (map (slot_width ws)) c.as_slice.ensures) (c.in_ok-fitted.ensures ∙ ap (filled c.args.typ.now) c.as_slice-2.ensures)
    c.in_ok-fit.ensures.typ c.in_ok-fit.ensures.over)
    c.requires
