-- What was found tells all faults.
use Rattle.std.proofs.Common.{◌≡◌, List, sym, subst}
use Rattle.std.specs.Prelude.{Contains}
use Rattle.place_text.specs.First.{Tells}
use Rattle.fir_tree.specs.declared.circuit.Circuit.{Circuit}
use Rattle.type_check.specs.declared.fault.TypeFault.{TypeFault}
use Rattle.type_check.specs.Statements.{faults_of}
use Rattle.type_check.specs.Faults.{IsFault}

pub tells : (circuit : Circuit) {faults : List TypeFault} → faults ≡ faults_of circuit → Tells (IsFault circuit) faults
tells circuit {faults} e = record {
  told = λ fault is. subst (λ l. Contains l fault) (sym e) is;
  had = λ fault c. subst (λ l. Contains l fault) e c;
}
