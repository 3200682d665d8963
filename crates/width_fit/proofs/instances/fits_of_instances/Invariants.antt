use Rattle.part_fits.specs.Fits.{AreFits}
use Rattle.width_fit.proofs.instances.fits_of_instances.Given as goal

abbrev pub invariant-loop-held : goal.invariant-loop-held
invariant-loop-held l = AreFits l.widths l.instances.entries l.fits.entries
