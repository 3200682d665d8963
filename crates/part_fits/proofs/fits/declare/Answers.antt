use Rattle.std.proofs.Common.{rules, sym, subst}
use Rattle.std.proofs.lemmas.Result.{on_ok_weaker}
use Rattle.part_fits.specs.Seen.{Holds}
use Rattle.part_fits.proofs.Declared.{fits_declared}
use Rattle.part_fits.proofs.Seeing.{held_known}
use Rattle.part_fits.proofs.fits.declare.Goals as goal

pub returns-clause-fits : goal.returns-clause-fits
returns-clause-fits c = λ ws choices own held.
    on_ok_weaker c.note.result
    (λ e. subst (λ k. Holds ws k c.insert.new.self.entries choices) (sym e) (record {
      fits = fits_declared ws c.args.known.now.entries c.args.fits.now.entries c.insert.new.self.entries c.args.name c.args.component c.args.fit (search rules) c.in_ok-insert.ensures.updates.0 own held.fits;
      choices = held_known ws c.args.known.now.entries c.args.name c.args.component choices held.choices;
    }))
    c.note.ensures
