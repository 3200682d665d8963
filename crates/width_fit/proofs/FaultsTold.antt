-- What was found tells all faults.
use Rattle.std.proofs.Common.{◌≡◌, List, sym, subst}
use Rattle.std.specs.Prelude.{Contains}
use Rattle.place_text.specs.First.{Tells}
use Rattle.prim_ops.specs.declared.widths.Width.{Width}
use Rattle.fir_tree.specs.declared.scope.Checked.{Checked}
use Rattle.width_fit.specs.declared.fault.WidthFault.{WidthFault}
use Rattle.width_fit.specs.Judging.{told_of}
use Rattle.width_fit.specs.Faults.{IsFault}

pub tells : (checked : Checked) (widths : List Width) {faults : List WidthFault} → faults ≡ (told_of checked widths).faults → Tells (IsFault checked widths) faults
tells checked widths {faults} e = record {
  told = λ fault is. subst (λ l. Contains l fault) (sym e) is;
  had = λ fault c. subst (λ l. Contains l fault) e c;
}
