use Rattle.std.proofs.Common.{ap, ◌∙◌, map}
use Rattle.type_filling.specs.Filling.{filled}
use Rattle.width_fit.specs.Judging.{slot_width}
use Rattle.part_fits.proofs.Declared.{fits_of}
use Rattle.width_fit.proofs.telling.declare_port.Goals as goal

pub returns-clause-fits : goal.returns-clause-fits
returns-clause-fits c =
    let ws = c.args.given.now.widths.now in
    let typ = c.args.port.now.typ in
    c.declare.ensures.fits ws c.args.walk.now.choices
    (fits_of ws c.in_ok-component.component (record { typ = c.in_ok-copy.field-0; flow = c.port_flow.result }) c.args.slots typ c.in_ok-fitted.fitted c.in_ok-widths.widths c.in_ok-fit.fit c.in_ok-component.ensures
    c.in_ok-copy.ensures (c.in_ok-widths.ensures ∙ ap (map (slot_width ws)) c.as_slice.ensures) (c.in_ok-fitted.ensures ∙ ap (filled typ) c.as_slice-2.ensures)
    c.in_ok-fit.ensures.typ c.in_ok-fit.ensures.over)
    c.requires
