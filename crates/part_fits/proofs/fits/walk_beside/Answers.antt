use Rattle.std.proofs.Common.{rules}
use Rattle.part_fits.proofs.Declared.{beside_more}
use Rattle.part_fits.proofs.fits.walk_beside.Goals as goal

pub loop-suffix-preserved : goal.loop-suffix-preserved
loop-suffix-preserved c = λ ws sized h.
    beside_more ws c.args.suffixes.now c.loop-suffix.suffix-index c.suffix-item.result sized c.in_ok-part.part.known.typ.now c.in_ok-part.part.fitted.now (search rules) (search rules)
    (c.in_ok-part.ensures ws _ (c.loop-suffix.invariant ws sized h))
