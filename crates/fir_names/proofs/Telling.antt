-- What was found tells all faults.
use Rattle.std.specs.Prelude.{ℕ}
use Rattle.place_text.specs.First.{Tells}
use Rattle.fir_tree.specs.declared.circuit.Circuit.{Circuit}
use Rattle.fir_names.specs.declared.gather.Gathered.{Gathered}
use Rattle.fir_names.specs.Faults.{IsFault}
use Rattle.fir_names.specs.Finds.{IsFound}
use Rattle.fir_names.proofs.Meaning.{found_sound, found_complete}

pub tells : (circuit : Circuit) (main : ℕ) (found : Gathered) → IsFound circuit main found → Tells (IsFault circuit) found.faults.items
tells circuit main found h = record {
  told = λ fault is. found_complete circuit main found h fault is;
  had = λ fault c. found_sound circuit main found h fault c;
}
