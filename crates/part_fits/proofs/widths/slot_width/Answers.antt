use Rattle.std.proofs.Common.{arith}
use Rattle.std.proofs.lemmas.Grind.{common_steps}
use Rattle.part_fits.proofs.Slots.{slot-fixed, slot-var}
use Rattle.part_fits.proofs.widths.slot_width.Goals as goal

pub returns-in-Fixed : goal.returns-in-Fixed
returns-in-Fixed c = let e = slot-fixed c.args.widths.now c.args.slot c.in-Fixed.bits c.in-Fixed.is in grind (arith, common_steps, e)

pub returns-in-Some : goal.returns-in-Some
returns-in-Some c = let e = slot-var c.args.widths.now c.args.slot c.in-Var.variable c.in-Var.is in grind (arith, common_steps, e)

pub returns-in-None : goal.returns-in-None
returns-in-None c = let e = slot-var c.args.widths.now c.args.slot c.in-Var.variable c.in-Var.is in grind (arith, common_steps, e)
