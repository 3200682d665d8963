use Rattle.std.proofs.Common.{rules, sym, subst}
use Rattle.part_fits.specs.Fits.{StandsBeside}
use Rattle.width_rules.specs.Sources.{element_step}
use Rattle.part_fits.proofs.Parts.{element_beside}
use Rattle.part_fits.proofs.fits.element_inside.Goals as goal

pub returns : goal.returns
returns c = λ ws sized h.
    subst (λ t. StandsBeside ws (element_step sized) c.in_ok-known.known.typ.now t) (sym c.get.ensures)
    (element_beside ws sized c.args.part.known.typ.now c.args.part.fitted.now c.in_ok-known.known.typ.now c.in-Vector.element _ (search rules) c.in-Vector.is h)
