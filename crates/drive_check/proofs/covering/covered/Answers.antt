use Rattle.std.proofs.Common.{◌∙◌, sym}
use Rattle.place_text.proofs.Ordering.{first_of, none_of}
use Rattle.place_text.proofs.Verdicts.{passes, refuses_by}
use Rattle.drive_check.specs.Faults.{place_of, rank_of}
use Rattle.drive_check.specs.Ranks.{one_each}
use Rattle.drive_check.proofs.Telling.{tells}
use Rattle.drive_check.proofs.covering.covered.Goals as goal

pub returns-in-Some : goal.returns-in-Some
returns-in-Some c = refuses_by one_each c.in-Some.first
    (first_of place_of rank_of c.in-Some.first
    (tells c.args.fitted.now (c.components_are_named.ensures c.args.fitted.now c.requires.names) (c.names_are_declared_once.ensures c.args.fitted.now.checked.resolved c.requires.names) c.in_ok-faults.ensures)
    (rw c.as_slice.ensures.value at c.in-Some.ensures))

pub returns : goal.returns
returns c = passes tt tt
    (none_of c.in_ok-faults.faults.items
    (tells c.args.fitted.now (c.components_are_named.ensures c.args.fitted.now c.requires.names) (c.names_are_declared_once.ensures c.args.fitted.now.checked.resolved c.requires.names) c.in_ok-faults.ensures)
    (sym c.as_slice.ensures.value ∙ c.in-None.ensures))
