-- Two faults of one place and one rank are the same, and so are two without a place: the laws that the faults of the size keep.
use Rattle.std.specs.Prelude.{◌≡◌, refl, Option, Some, None}
use mathlib.Core.Path.{sym, ap, ◌∙◌}
use Rattle.place_text.specs.declared.place.Place.{Place}
use Rattle.size_check.specs.declared.fault.SizeFault.{SizeFault}
use Rattle.size_check.specs.declared.fault.SizeFault.TheVariants.{TooLarge, NoMemory}
use Rattle.size_check.specs.Faults.{place_of, rank_of}

-- the fault of a place
fault_at : Option Place → SizeFault
fault_at None = NoMemory
fault_at (Some p) = TooLarge p

back : (fault : SizeFault) → fault_at (place_of fault) ≡ fault
unfolding fault_at
back (TooLarge p) = refl
back NoMemory = refl

pub one_each : (fault other : SizeFault) → place_of fault ≡ place_of other → rank_of fault ≡ rank_of other → fault ≡ other
one_each fault other e r = sym (back fault) ∙ ap fault_at e ∙ back other

pub one_nowhere : (fault other : SizeFault) → place_of fault ≡ None → place_of other ≡ None → fault ≡ other
one_nowhere fault other e h = sym (back fault) ∙ ap fault_at (e ∙ sym h) ∙ back other
