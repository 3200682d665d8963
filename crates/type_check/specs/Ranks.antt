-- Two faults of one place and one rank are the same, and so are two without a place: the laws that the faults of types keep.
use Rattle.std.specs.Prelude.{◌≡◌, ℕ, refl, Option, Some, None}
use mathlib.Core.Path.{sym, ap, ap₂, ◌∙◌}
use Prim.Native.Nat.{zero, suc}
use Rattle.place_text.specs.declared.place.Place.{Place}
use Rattle.type_check.specs.declared.fault.TypeFault.{TypeFault}
use Rattle.type_check.specs.declared.fault.TypeFault.TheVariants.{FieldTwice, FieldUnknown, NotBundle, NotVector, IndexRange, IndexKind, OperandKind, NotEquivalent, FlowSink, FlowSource, ConditionKind, NotPassive, LiteralFit, MemoryField, NoMemory}
use Rattle.type_check.specs.Faults.{place_of, rank_of}

-- the fault of a place and a rank
fault_at : Option Place → ℕ → TypeFault
fault_at None n = NoMemory
fault_at (Some p) zero = FieldTwice p
fault_at (Some p) (suc zero) = FieldUnknown p
fault_at (Some p) (suc (suc zero)) = NotBundle p
fault_at (Some p) (suc (suc (suc zero))) = NotVector p
fault_at (Some p) (suc (suc (suc (suc zero)))) = IndexRange p
fault_at (Some p) (suc (suc (suc (suc (suc zero))))) = IndexKind p
fault_at (Some p) (suc (suc (suc (suc (suc (suc zero)))))) = OperandKind p
fault_at (Some p) (suc (suc (suc (suc (suc (suc (suc zero))))))) = NotEquivalent p
fault_at (Some p) (suc (suc (suc (suc (suc (suc (suc (suc zero)))))))) = FlowSink p
fault_at (Some p) (suc (suc (suc (suc (suc (suc (suc (suc (suc zero))))))))) = FlowSource p
fault_at (Some p) (suc (suc (suc (suc (suc (suc (suc (suc (suc (suc zero)))))))))) = ConditionKind p
fault_at (Some p) (suc (suc (suc (suc (suc (suc (suc (suc (suc (suc (suc zero))))))))))) = NotPassive p
fault_at (Some p) (suc (suc (suc (suc (suc (suc (suc (suc (suc (suc (suc (suc zero)))))))))))) = LiteralFit p
fault_at (Some p) (suc (suc (suc (suc (suc (suc (suc (suc (suc (suc (suc (suc (suc n))))))))))))) = MemoryField p

back : (fault : TypeFault) → fault_at (place_of fault) (rank_of fault) ≡ fault
unfolding fault_at
back (FieldTwice p) = refl
back (FieldUnknown p) = refl
back (NotBundle p) = refl
back (NotVector p) = refl
back (IndexRange p) = refl
back (IndexKind p) = refl
back (OperandKind p) = refl
back (NotEquivalent p) = refl
back (FlowSink p) = refl
back (FlowSource p) = refl
back (ConditionKind p) = refl
back (NotPassive p) = refl
back (LiteralFit p) = refl
back (MemoryField p) = refl
back NoMemory = refl

nowhere : (rank : ℕ) → fault_at None rank ≡ NoMemory
unfolding fault_at
nowhere rank = refl

pub one_each : (fault other : TypeFault) → place_of fault ≡ place_of other → rank_of fault ≡ rank_of other → fault ≡ other
one_each fault other e r = sym (back fault) ∙ ap₂ fault_at e r ∙ back other

pub one_nowhere : (fault other : TypeFault) → place_of fault ≡ None → place_of other ≡ None → fault ≡ other
one_nowhere fault other e h = is fault e ∙ sym (is other h)
  where
    is : (given : TypeFault) → place_of given ≡ None → given ≡ NoMemory
    is given e = sym (back given) ∙ ap (λ p. fault_at p (rank_of given)) e ∙ nowhere (rank_of given)
