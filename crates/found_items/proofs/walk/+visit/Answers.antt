use Rattle.std.proofs.Common.{rules, ◌≡◌, ℕ, ◌+◌, ◌<◌, List, length, get_or, Some, nat_eq, refl, sym, subst, ap, ◌∙◌, arith}
use Rattle.std.specs.Prelude.{slice_get}
use Rattle.std.specs.List.{AllZip}
use Rattle.std.proofs.lemmas.List.{take_all, drop_all}
use Rattle.std.proofs.lemmas.Option.{slice_get_read}
use Rattle.indexmap.specs.IndexMap.{insert_entry}
use Rattle.fir_meaning.specs.Components.{design_of}
use Rattle.found_items.specs.declared.table.Row.{Row}
use Rattle.found_items.specs.declared.walk.Walk.{Walk}
use Rattle.found_items.specs.Tables.{MadeBy}
use Rattle.found_items.specs.Walking.{HasNames, HasFirsts}
use Rattle.print_stop.specs.RunItems.{prints_of}
use Rattle.found_items.proofs.Entering.{rows_within, own_within, component_at, row_is, none_behind, can_pass}
use Rattle.found_items.proofs.Steps.{leaf_fits, leaf_more, instance_more, names_leaf, names_instance, names_none, going_first}
use Rattle.found_items.proofs.Owning.{own_are}
use Rattle.found_items.proofs.Ending.{all_can, all_own, all_counted, visited}
use Rattle.found_items.proofs.walk.+visit.Goals as goal

pub pass-returns-in_ok-insert-in-Leaves-clause-names : goal.pass-returns-in_ok-insert-in-Leaves-clause-names
pass-returns-in_ok-insert-in-Leaves-clause-names t c = λ m done comp at is has.
    names_leaf m.components done comp c.args.walk.now.firsts.entries c.insert.new.self.entries c.args.walk.now.next at (subst (λ (n : ℕ). n < 4294967296) is.name (search rules))
    (c.in_ok-insert-in-Leaves.ensures.entries ∙ ap (λ n. insert_entry nat_eq c.args.walk.now.firsts.entries n c.args.walk.now.next) is.name) has

pub pass-returns-in_ok-insert-in-Leaves-clause-going : goal.pass-returns-in_ok-insert-in-Leaves-clause-going
pass-returns-in_ok-insert-in-Leaves-clause-going t c = λ path m placed all first done comp well stands at is behind going.
    let fitted = c.args.table.now.fitted.now in
    let before = c.args.walk.now in
    let after : Walk = record { firsts = c.insert.new.self; below = before.below; next = c.saturating_add-walk.result } in
    let made = subst (MadeBy fitted.checked.resolved comp) c.in-Leaves.is is.makes in
    let fits = leaf_fits fitted well all path m stands placed first done comp at behind before going made.0 in
    let few = behind.few in
    let count = made.1 in
    let sum : c.saturating_add-walk.result ≡ before.next + c.in-Leaves.count = omega (arith, c.saturating_add-walk.ensures, fits, few, count) in
    leaf_more fitted well all path m stands placed first done comp at behind before going after c.in-Leaves.count made.0 made.1
    (c.in_ok-insert-in-Leaves.ensures.entries ∙ ap (λ n. insert_entry nat_eq before.firsts.entries n before.next) is.name) sum refl

pub pass-returns-in_ok-append-in-Module-clause-names : goal.pass-returns-in_ok-append-in-Module-clause-names
pass-returns-in_ok-append-in-Module-clause-names t c = λ m done comp at is has.
    let made = subst (MadeBy c.args.table.now.fitted.now.checked.resolved comp) c.in-Module.is is.makes in
    names_instance m.components done comp made.0 c.args.walk.now.firsts.entries at made.1 has

pub pass-returns-in_ok-append-in-Module-clause-going : goal.pass-returns-in_ok-append-in-Module-clause-going
pass-returns-in_ok-append-in-Module-clause-going t c = λ path m placed all first done comp well stands at is behind going.
    let fitted = c.args.table.now.fitted.now in
    let before = c.args.walk.now in
    let after : Walk = record { firsts = before.firsts; below = c.append.new.self; next = c.visit.new.next } in
    let made = subst (MadeBy fitted.checked.resolved comp) c.in-Module.is is.makes in
    instance_more fitted well all path m stands placed first done comp at behind before going after made.0 c.in-Module.number c.in_ok-inner-in-Module.inner.items made.1 made.2 refl c.in_ok-append-in-Module.ensures.items
    (λ p n own s h o b. (c.in_ok-inner-in-Module.ensures.counted p n own all s h o b, c.in_ok-inner-in-Module.ensures.found p n own all s h o b))

pub visit-index-requires : goal.visit-index-requires
visit-index-requires t c = let within = rows_within c.args.table.now c.args.number c.args.left c.requires in let long = c.args.table.now.rows.ok.0 in omega (arith, within, long)

pub visit-loop-row-init : goal.visit-loop-row-init
visit-loop-row-init t c = record {
  names = λ m here. names_none c.new.result.entries;
  going = λ path m placed all stands here order behind. going_first c.args.table.now.fitted.now all path m placed c.args.next.now (record { firsts = c.new.result; below = c.new-2.result; next = c.args.next.now }) order refl c.new-2.ensures.items;
}

-- the rows that are gone through
rows_there : (items : List (List Row)) (n : ℕ) (seen rows : List Row) → n < length items → seen ≡ get_or items n seen → rows ≡ seen → slice_get items n ≡ Some rows
rows_there items n seen rows less is same = slice_get_read items (length items) n seen refl less is ∙ ap Some (sym same)

numbers_there : (items : List (List ℕ)) (n : ℕ) (seen rows : List ℕ) → n < length items → seen ≡ get_or items n seen → rows ≡ seen → slice_get items n ≡ Some rows
numbers_there items n seen rows less is same = slice_get_read items (length items) n seen refl less is ∙ ap Some (sym same)

pub visit-pass-requires : goal.visit-pass-requires
visit-pass-requires t c =
    let table = c.args.table.now in
    let rows = c.as_slice-rows.result.now in
    let there : slice_get table.rows.items c.args.number ≡ Some rows = rows_there table.rows.items c.args.number c.index.result.now rows (rows_within table c.args.number c.args.left c.requires) c.index.ensures c.as_slice-rows.ensures in
    (search rules, can_pass table c.args.number c.args.left c.requires rows there c.loop-row.row-index c.loop-row-test.true _)

pub visit-loop-row-preserved : goal.visit-loop-row-preserved
visit-loop-row-preserved t c =
    let table = c.args.table.now in
    let rows = c.as_slice-rows.result.now in
    let i = c.loop-row.row-index in
    let less : i < length rows = c.loop-row-test.true in
    let there : slice_get table.rows.items c.args.number ≡ Some rows = rows_there table.rows.items c.args.number c.index.result.now rows (rows_within table c.args.number c.args.left c.requires) c.index.ensures c.as_slice-rows.ensures in
    record {
      names = λ m here.
          let comp = component_at table c.args.number c.args.left c.requires rows there m here i less in
          c.in_ok-pass.ensures.names m i comp.0 comp.1 (row_is table c.args.number c.args.left c.requires rows there m here i less comp.0 comp.1 _) (c.loop-row.invariant.names m here);
      going = λ path m placed all stands here order behind.
          let comp = component_at table c.args.number c.args.left c.requires rows there m here i less in
          c.in_ok-pass.ensures.going path m placed all c.args.next.now i comp.0 c.requires.formed stands comp.1 (row_is table c.args.number c.args.left c.requires rows there m here i less comp.0 comp.1 _) behind
          (c.loop-row.invariant.going path m placed all stands here order behind);
    }

pub visit-index-requires-2 : goal.visit-index-requires-2
visit-index-requires-2 t c = let within = own_within c.args.table.now c.args.number c.args.left c.requires in let long = c.args.table.now.own.ok.0 in omega (arith, within, long)

pub visit-own_of-requires-clause-there : goal.visit-own_of-requires-clause-there
visit-own_of-requires-clause-there t c =
    let table = c.args.table.now in
    let fitted = table.fitted.now in
    let can = c.requires in
    let prints = fitted.checked.resolved.prints in
    let rows = c.as_slice-rows.result.now in
    let i = c.loop-row.row-index in
    let there : slice_get table.rows.items c.args.number ≡ Some rows = rows_there table.rows.items c.args.number c.index.result.now rows (rows_within table c.args.number c.args.left can) c.index.ensures c.as_slice-rows.ensures in
    let past = none_behind table c.args.number c.args.left can rows there can.m can.number_is i c.loop-row-test.false in
    let numbers = c.as_slice-own.result.now in
    let mine : slice_get table.own.items c.args.number ≡ Some numbers = numbers_there table.own.items c.args.number c.index-2.result.now numbers (own_within table c.args.number c.args.left can) c.index-2.ensures c.as_slice-own.ensures in
    let are : AllZip (λ number print. slice_get prints number ≡ Some print) numbers (prints_of (design_of fitted) prints can.m) =
    subst (λ l. AllZip (λ number print. slice_get prints number ≡ Some print) l (prints_of (design_of fitted) prints can.m)) (sym (can.is.own.each c.args.number numbers mine)) (own_are fitted can.formed.names c.args.number can.m can.number_is prints) in
    all_can fitted.checked.resolved.names (design_of fitted) prints can.has can.path can.m can.stands c.loop-row.walk.firsts.entries
    (subst (λ cs. HasNames cs c.loop-row.walk.firsts.entries) (take_all i can.m.components past) (c.loop-row.invariant.names can.m can.number_is)) numbers (prints_of (design_of fitted) prints can.m) (λ print h. h) are

pub visit-returns-clause-counted : goal.visit-returns-clause-counted
visit-returns-clause-counted t c = λ path m placed all stands here order behind.
    let table = c.args.table.now in
    let can = c.requires in
    let rows = c.as_slice-rows.result.now in
    let i = c.loop-row.row-index in
    let there : slice_get table.rows.items c.args.number ≡ Some rows = rows_there table.rows.items c.args.number c.index.result.now rows (rows_within table c.args.number c.args.left can) c.index.ensures c.as_slice-rows.ensures in
    let past = none_behind table c.args.number c.args.left can rows there m here i c.loop-row-test.false in
    all_counted table.fitted.now all path m placed c.args.next.now i c.loop-row.walk (c.loop-row.invariant.going path m placed all stands here order behind) (drop_all i m.components past)

pub visit-returns-clause-found : goal.visit-returns-clause-found
visit-returns-clause-found t c = λ path m placed all stands here order behind.
    let table = c.args.table.now in
    let fitted = table.fitted.now in
    let can = c.requires in
    let prints = fitted.checked.resolved.prints in
    let rows = c.as_slice-rows.result.now in
    let i = c.loop-row.row-index in
    let there : slice_get table.rows.items c.args.number ≡ Some rows = rows_there table.rows.items c.args.number c.index.result.now rows (rows_within table c.args.number c.args.left can) c.index.ensures c.as_slice-rows.ensures in
    let past = none_behind table c.args.number c.args.left can rows there m here i c.loop-row-test.false in
    let numbers = c.as_slice-own.result.now in
    let mine : slice_get table.own.items c.args.number ≡ Some numbers = numbers_there table.own.items c.args.number c.index-2.result.now numbers (own_within table c.args.number c.args.left can) c.index-2.ensures c.as_slice-own.ensures in
    let are : AllZip (λ number print. slice_get prints number ≡ Some print) numbers (prints_of (design_of fitted) prints m) =
    subst (λ l. AllZip (λ number print. slice_get prints number ≡ Some print) l (prints_of (design_of fitted) prints m)) (sym (can.is.own.each c.args.number numbers mine)) (own_are fitted can.formed.names c.args.number m here prints) in
    let going = c.loop-row.invariant.going path m placed all stands here order behind in
    let firsts : HasFirsts all path m m.components c.loop-row.walk.firsts.entries = subst (λ cs. HasFirsts all path m cs c.loop-row.walk.firsts.entries) (take_all i m.components past) going.firsts in
    visited fitted all path m placed c.args.next.now i c.loop-row.walk going (drop_all i m.components past) c.in_ok-found.found.items c.append.new.self.items
    (all_own fitted.checked.resolved.names (design_of fitted) prints can.has path m stands all c.loop-row.walk.firsts.entries firsts numbers c.in_ok-found.found.items are c.in_ok-found.ensures) c.in_ok-append.ensures.items
