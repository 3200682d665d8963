-- Two faults of one place and one rank are the same, and so are two without a place: the laws that the faults of widths keep.
use Rattle.std.specs.Prelude.{◌≡◌, ℕ, refl, Option, Some, None}
use mathlib.Core.Path.{sym, ap, ap₂, ◌∙◌}
use Prim.Native.Nat.{zero, suc}
use Rattle.place_text.specs.declared.place.Place.{Place}
use Rattle.width_fit.specs.declared.fault.WidthFault.{WidthFault}
use Rattle.width_fit.specs.declared.fault.WidthFault.TheVariants.{WidthUnknown, WidthOver, ParameterRange, ConditionWidth, NoMemory}
use Rattle.width_fit.specs.Faults.{place_of, rank_of}

-- the fault of a place and a rank
fault_at : Option Place → ℕ → WidthFault
fault_at None n = NoMemory
fault_at (Some p) zero = WidthUnknown p
fault_at (Some p) (suc zero) = WidthOver p
fault_at (Some p) (suc (suc zero)) = ParameterRange p
fault_at (Some p) (suc (suc (suc n))) = ConditionWidth p

back : (fault : WidthFault) → fault_at (place_of fault) (rank_of fault) ≡ fault
unfolding fault_at
back (WidthUnknown p) = refl
back (WidthOver p) = refl
back (ParameterRange p) = refl
back (ConditionWidth p) = refl
back NoMemory = refl

nowhere : (rank : ℕ) → fault_at None rank ≡ NoMemory
unfolding fault_at
nowhere rank = refl

pub one_each : (fault other : WidthFault) → place_of fault ≡ place_of other → rank_of fault ≡ rank_of other → fault ≡ other
one_each fault other e r = sym (back fault) ∙ ap₂ fault_at e r ∙ back other

pub one_nowhere : (fault other : WidthFault) → place_of fault ≡ None → place_of other ≡ None → fault ≡ other
one_nowhere fault other e h = is fault e ∙ sym (is other h)
  where
    is : (given : WidthFault) → place_of given ≡ None → given ≡ NoMemory
    is given e = sym (back given) ∙ ap (λ p. fault_at p (rank_of given)) e ∙ nowhere (rank_of given)
