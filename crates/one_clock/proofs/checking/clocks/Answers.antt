use Rattle.std.proofs.Common.{◌∙◌, sym}
use Rattle.place_text.proofs.Ordering.{first_of, none_of}
use Rattle.place_text.proofs.Verdicts.{passes, refuses_by}
use Rattle.clock_check.specs.Faults.{place_of, rank_of}
use Rattle.clock_check.specs.Ranks.{one_each}
use Rattle.one_clock.proofs.checking.clocks.Goals as goal

pub returns-in-Some : goal.returns-in-Some
returns-in-Some c = refuses_by one_each c.in-Some.first
    (first_of place_of rank_of c.in-Some.first c.in_ok-faults.ensures.tells (rw c.as_slice.ensures.value at c.in-Some.ensures))

pub returns : goal.returns
returns c =
    let none = none_of c.in_ok-faults.faults.items c.in_ok-faults.ensures.tells (sym c.as_slice.ensures.value ∙ c.in-None.ensures) in
    passes tt (c.no_fault_has_one_clock.ensures c.args.fitted.now c.in_ok-faults.ensures.set c.in_ok-faults.ensures.decides none) none
