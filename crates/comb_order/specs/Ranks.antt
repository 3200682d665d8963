-- Two faults of one place and one rank are the same, and so are two without a place: the laws that the fault of an order keeps.
use Rattle.std.specs.Prelude.{◌≡◌, refl, Option, Some, None}
use mathlib.Core.Path.{sym, ap, ◌∙◌}
use Rattle.place_text.specs.declared.place.Place.{Place}
use Rattle.comb_order.specs.declared.fault.OrderFault.{OrderFault}
use Rattle.comb_order.specs.declared.fault.OrderFault.TheVariants.{CombLoop, NoMemory}
use Rattle.comb_order.specs.Faults.{place_of, rank_of}

-- the fault of a place
fault_at : Option Place → OrderFault
fault_at None = NoMemory
fault_at (Some p) = CombLoop p

back : (fault : OrderFault) → fault_at (place_of fault) ≡ fault
unfolding fault_at
back (CombLoop p) = refl
back NoMemory = refl

one_place : (fault other : OrderFault) → place_of fault ≡ place_of other → fault ≡ other
one_place fault other e = sym (back fault) ∙ ap fault_at e ∙ back other

pub one_each : (fault other : OrderFault) → place_of fault ≡ place_of other → rank_of fault ≡ rank_of other → fault ≡ other
one_each fault other e r = one_place fault other e

pub one_nowhere : (fault other : OrderFault) → place_of fault ≡ None → place_of other ≡ None → fault ≡ other
one_nowhere fault other e h = one_place fault other (e ∙ sym h)
