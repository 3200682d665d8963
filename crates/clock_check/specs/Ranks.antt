-- Two faults of one place and one rank are the same, and so are two without a place: the laws that the faults of clocks keep.
use Rattle.std.specs.Prelude.{◌≡◌, refl, Option, Some, None}
use mathlib.Core.Path.{sym, ap, ◌∙◌}
use Rattle.place_text.specs.declared.place.Place.{Place}
use Rattle.clock_check.specs.declared.fault.ClockFault.{ClockFault}
use Rattle.clock_check.specs.declared.fault.ClockFault.TheVariants.{ClockOther, NoMemory}
use Rattle.clock_check.specs.Faults.{place_of, rank_of}

-- the fault of a place
fault_at : Option Place → ClockFault
fault_at None = NoMemory
fault_at (Some p) = ClockOther p

back : (fault : ClockFault) → fault_at (place_of fault) ≡ fault
unfolding fault_at
back (ClockOther p) = refl
back NoMemory = refl

pub one_each : (fault other : ClockFault) → place_of fault ≡ place_of other → rank_of fault ≡ rank_of other → fault ≡ other
one_each fault other e r = sym (back fault) ∙ ap fault_at e ∙ back other

pub one_nowhere : (fault other : ClockFault) → place_of fault ≡ None → place_of other ≡ None → fault ≡ other
one_nowhere fault other e h = sym (back fault) ∙ ap fault_at (e ∙ sym h) ∙ back other
