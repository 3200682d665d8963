use Rattle.ground_exprs.proofs.Fits.{fits_itself}
use Rattle.ground_exprs.proofs.fitting.fit_source.Goals as goal

pub returns-then-source-width-clause-fits : goal.returns-then-source-width-clause-fits
returns-then-source-width-clause-fits c = fits_itself c.args.source
