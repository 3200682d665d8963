-- The fitted types that a walk holds, and what the choices in it came to.
use Rattle.part_fits.specs.Seen.{Holds}
use Rattle.width_fit.specs.declared.given.Given.{Given}
use Rattle.width_fit.specs.declared.walk.Walk.{Walk}

abbrev pub HoldsFits : Given → Walk → Type 0
HoldsFits given walk = Holds given.widths.now walk.known.entries walk.fits.entries walk.choices
