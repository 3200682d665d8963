use Rattle.part_fits.proofs.Slots.{too_many}
use Rattle.part_fits.proofs.widths.is_as_wide.Goals as goal

pub returns-then-first-second : goal.returns-then-first-second
returns-then-first-second c = (λ f. absurd cc, λ h. absurd (too_many c.args.first.now c.args.second.now c.if-first-second.true h))
