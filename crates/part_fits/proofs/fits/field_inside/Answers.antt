use Rattle.std.proofs.Common.{rules, sym, subst}
use Rattle.part_fits.specs.Fits.{StandsBeside}
use Rattle.width_rules.specs.Sources.{field_step}
use Rattle.part_fits.proofs.Parts.{field_beside}
use Rattle.part_fits.proofs.fits.field_inside.Goals as goal

pub returns : goal.returns
returns c = λ ws sized h.
    subst (λ t. StandsBeside ws (field_step c.args.name sized) t c.in_ok-fitted.fitted.now.typ) (sym c.known.ensures.typ)
    (field_beside ws c.args.name sized c.args.part.known.typ.now c.args.part.fitted.now c.in_ok-field.field.field.now c.in-Bundle.fields c.in_ok-fitted.fitted.now c.in_ok-field.field.place
    (search rules) c.in_ok-field.ensures.place c.in-Bundle.is (search rules) (search rules) h)
