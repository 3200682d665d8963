use Rattle.std.proofs.Common.{sym, ◌∙◌}
use Rattle.place_text.proofs.Ordering.{first_of, none_of}
use Rattle.place_text.proofs.Verdicts.{passes, refuses_by}
use Rattle.type_check.specs.Faults.{place_of, rank_of}
use Rattle.type_check.specs.Ranks.{one_each}
use Rattle.type_check.proofs.Telling.{tells}
use Rattle.type_check.proofs.checking.check.Goals as goal

pub returns-in-Some : goal.returns-in-Some
returns-in-Some c = refuses_by one_each c.in-Some.first
    (first_of place_of rank_of c.in-Some.first (tells c.args.circuit.now c.in_ok-types.ensures.faults) (rw c.as_slice.ensures.value at c.in-Some.ensures))

pub returns-in-None : goal.returns-in-None
returns-in-None c = passes _ (c.from_vec.ensures ∙ c.in_ok-types.ensures.types) (none_of _ (tells c.args.circuit.now c.in_ok-types.ensures.faults) (sym c.as_slice.ensures.value ∙ c.in-None.ensures))
