-- A list may hold the type that holds it: what the toolchain asks of such a list.
use mathlib.Core.Path.{◌≡◌, refl, sym}
use mathlib.Core.List.{[]}
use mathlib.Core.List as listed-module
use mathlib.Core.Former.{Former, this, list, via, children}
use base.Stored.{code_map}
use denote.RattleType.{RattleType}
use denote.HoleLaws.{Alike}
use denote.HolePlaces.{Recodes, struct_places, laid}
use denote.Hole.Carrier.{listed, list-listed}
use denote.Hole.Fix.{over}
use denote.Param.Weighed.{Weighed, w_list}
use denote.Model.Placed.{view_places}
use Rattle.std.specs.formers.vec.Vec as vector
use Rattle.std.specs.declared.alloc.Global.{Global}
use Rattle.std.specs.contracts.alloc.Global as heap
use Rattle.std.specs.contracts.impls.GlobalAllocator.TheImpl.{ghosts}
use Rattle.bit_words.specs.declared.list.List.TheInside.{Inside}
use Rattle.bit_words.specs.declared.list.List.TheView.{view, invariant}
use Rattle.bit_words.specs.contracts.list.List as Row
use Rattle.bit_words.specs.contracts.list.List.TheInside as Within

-- the shape: a list of what it holds, empty at first
abbrev pub the_former : Former {0} → Former {0}
the_former held = list held

abbrev pub the_weighed : {held : Former {0}} → Weighed held → Weighed (the_former held)
the_weighed weight = w_list weight

pub the_empty : listed-module.List ⊥
the_empty = []

abbrev pub the_items : (X : Type 0) → listed-module.List X → listed-module.List X
the_items X items = items

pub the_items_listed : (X : Type 0) (items : listed-module.List X) → listed _ (children (the_former this) X items) ≡ the_items X items
the_items_listed X items = list-listed X items

-- its one field, the vector
abbrev fields : Former {0}
fields = via (vector.the_former this Global) Inside (λ X inside. inside.items) (λ X items. record { items = items }) (λ X inside. refl) (λ X items. refl)

module _ (R S : RattleType) (change : R.Denot → S.Denot) where
  pub the_places : Alike R S change → Alike (Row.the_row R) (Row.the_row S) ((the_former this).map R.Denot S.Denot change)
  the_places alike = view_places fields (list this) view (λ X Y k u. refl) (λ X u. refl) R.Denot S.Denot change (Row.the_row R).coded (Row.the_row S).coded
      (invariant R.Denot) (invariant S.Denot) (λ u p q. refl) (λ u p q. refl) (λ u e. tt) (λ u e. tt)
      (over (Within.the_row R)) (over (Within.the_row S))
      (struct_places (Within.the_type R) (Within.the_type S) (vector.mapped change, tt) _ (λ d. refl) refl (laid _ _ _ (vector.the_places heap.the_row ghosts R S change alike), tt))

  pub the_codes_placed : Recodes R S change → Recodes (Row.the_row R) (Row.the_row S) ((the_former this).map R.Denot S.Denot change)
  the_codes_placed recodes items = sym (code_map R.coded.code S.coded.code change (λ x. sym (recodes x)) items)
