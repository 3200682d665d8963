use Rattle.std.proofs.Common.{rules}
use Rattle.part_fits.proofs.Declared.{fits_put}
use Rattle.width_fit.proofs.instances.fits_of_instances.Goals as goal

pub loop-held-preserved : goal.loop-held-preserved
loop-held-preserved c =
    fits_put c.args.widths.now c.args.instances.now.entries c.loop-held.fits.entries c.insert.new.self.entries c.held-item.result.holder.now.name.id c.in_ok-fit.fit c.in_ok-insert.ensures.updates.0 (search rules)
    c.loop-held.invariant
