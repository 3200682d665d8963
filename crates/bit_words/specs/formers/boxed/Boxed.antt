-- A box may hold the type that holds it: what the toolchain asks of such a box.
use mathlib.Core.Path.{refl}
use mathlib.Core.Former.{Former, this, const, pair, via}
use base.Stored.{gnil}
use base.Fml.{ftrue}
use denote.RattleType.{RattleType}
use denote.Memory.{part_of}
use denote.RawPtr.{Ptr}
use denote.Sharing.{nothing}
use denote.HoleLaws.{Alike}
use denote.HolePlaces.{Recodes, struct_places, laid, one_value}
use denote.Hole.Fix.{over}
use denote.Param.Weighed.{Weighed}
use denote.Model.Placed.{view_places}
use Rattle.std.specs.declared.boxed.Box.{Box}
use Rattle.std.specs.contracts.boxed.Box as box
use Rattle.std.specs.declared.alloc.Global.{Global}
use Rattle.std.specs.contracts.alloc.Global as heap
use Rattle.std.specs.contracts.impls.GlobalAllocator.TheImpl.{ghosts}
use Rattle.bit_words.specs.declared.boxed.Boxed.TheInside.{Inside}
use Rattle.bit_words.specs.declared.boxed.Boxed.TheView.{view, invariant}
use Rattle.bit_words.specs.contracts.boxed.Boxed as Row
use Rattle.bit_words.specs.contracts.boxed.Boxed.TheInside as Within

-- the shape: what it holds, and nothing beside it
abbrev pub the_former : Former {0} → Former {0}
the_former held = held

abbrev pub the_weighed : {held : Former {0}} → Weighed held → Weighed (the_former held)
the_weighed weight = weight

-- its one field, the box: an address, an allocator and the value
abbrev fields : Former {0}
fields = via (pair (const (Ptr × Global)) this) Inside (λ X inside. ((inside.inner.ptr, inside.inner.alloc), inside.inner.value))
    (λ X parts. record { inner = record { ptr = parts.0.0; alloc = parts.0.1; value = parts.1 } }) (λ X inside. refl) (λ X parts. refl)

abbrev holding : {X Y : Type 0} → Box X Global → Y → Box Y Global
holding b y = record { ptr = b.ptr; alloc = b.alloc; value = y }

abbrev box_of : RattleType → RattleType
box_of R = box.the_row R heap.the_row ghosts

module _ (R S : RattleType) (change : R.Denot → S.Denot) where
  box_places : Alike R S change → Alike (box_of R) (box_of S) (λ b. holding b (change b.value))
  unfolding part_of
  box_places alike = record {
    mir_same = λ i. (box_of (one_value R (alike.mir_same i) (λ _. ftrue) (λ _ _. nothing) gnil)).mir;
    own_same = λ b i. (box_of (one_value R (alike.mir_same i) (alike.own_same b.value i) (alike.shr_same b.value i) gnil)).own_val (holding b tt);
    shr_same = λ b i. (box_of (one_value R (alike.mir_same i) (alike.own_same b.value i) (alike.shr_same b.value i) gnil)).shr_at (holding b tt);
  }

  pub the_places : Alike R S change → Alike (Row.the_row R) (Row.the_row S) ((the_former this).map R.Denot S.Denot change)
  the_places alike = view_places fields this view (λ X Y k u. refl) (λ X u. refl) R.Denot S.Denot change (Row.the_row R).coded (Row.the_row S).coded
      (invariant R.Denot) (invariant S.Denot) (λ u p q. refl) (λ u p q. refl) (λ u e. tt) (λ u e. tt)
      (over (Within.the_row R)) (over (Within.the_row S))
      (struct_places (Within.the_type R) (Within.the_type S) ((λ b. holding b (change b.value)), tt) _ (λ d. refl) refl (laid _ _ _ (box_places alike), tt))

  pub the_codes_placed : Recodes R S change → Recodes (Row.the_row R) (Row.the_row S) ((the_former this).map R.Denot S.Denot change)
  the_codes_placed recodes value = recodes value
