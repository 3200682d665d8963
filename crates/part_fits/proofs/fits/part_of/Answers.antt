use Rattle.std.proofs.Common.{◌≡◌, rules, false, subst, ap, ◌∙◌}
use Rattle.width_rules.specs.declared.component.Component.{Component}
use Rattle.width_rules.specs.Sources.{component}
use Rattle.part_fits.specs.Fits.{Fits}
use Rattle.part_fits.proofs.fits.part_of.Goals as goal

pub returns : goal.returns
returns c = λ ws held.
    let fit = c.in_ok-fit.fit.now in
    let base = component c.args.known.now.entries c.args.name in
    let whole : Fits ws base fit.typ false = subst (λ over. Fits ws base fit.typ over) (search rules) (held.each c.args.name fit (search rules)) in
    let is : c.in_ok-get.field-0.now ≡ base = search rules in
    (c.in_ok-part.ensures ws base (record { same = c.known.ensures ∙ ap (λ (sized : Component). sized.part.typ) is; fits = whole })).fits
