use Rattle.std.proofs.Common.{rules, sym, ◌∙◌}
use Rattle.place_text.proofs.Ordering.{first_of, none_of}
use Rattle.place_text.proofs.Verdicts.{passes, refuses_by}
use Rattle.width_fit.specs.Faults.{place_of, rank_of}
use Rattle.width_fit.specs.Ranks.{one_each}
use Rattle.width_fit.proofs.FaultsTold.{tells}
use Rattle.width_fit.proofs.judging.judge.Goals as goal

pub returns-in-Some : goal.returns-in-Some
returns-in-Some c = refuses_by one_each c.in-Some.first
    (first_of place_of rank_of c.in-Some.first (tells c.args.checked c.args.widths.now c.in_ok-declared.ensures.faults) (rw c.as_slice.ensures.value at c.in-Some.ensures))

pub returns-in-None : goal.returns-in-None
returns-in-None c = passes _ (search rules) (none_of _ (tells c.args.checked c.args.widths.now c.in_ok-declared.ensures.faults) (sym c.as_slice.ensures.value ∙ c.in-None.ensures))
