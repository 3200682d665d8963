use Rattle.std.proofs.Common.{length, sym, ap, ◌∙◌}
use Rattle.std.proofs.lemmas.Slice.Zip.{AllZip-long}
use Rattle.vcd_write.specs.Pieces.{HasShapeOf}
use Rattle.vcd_write.proofs.dump.push_cycle.Goals as goal

pub push_changes-requires : goal.push_changes-requires
push_changes-requires c = ap length c.as_slice.ensures ∙ (sym (AllZip-long HasShapeOf _ _ (c.requires c.in-Some.old c.in-Some.is)) ∙ sym (ap length c.as_slice-in-Some.ensures))
