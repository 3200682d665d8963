use Rattle.std.proofs.Common.{◌≡◌, ℕ, ◌+◌, ◌<◌, [], ◌∷◌, ◌++◌, List, length, take, get_or, Some, refl, sym, subst, ap, ◌∙◌}
use Rattle.std.specs.Prelude.{slice_get}
use Rattle.std.specs.List.{AllZip}
use Rattle.std.proofs.lemmas.List.{take_more}
use Rattle.std.proofs.lemmas.Option.{slice_get_within, same_Some}
use Rattle.fir_tree.specs.declared.circuit.Circuit.{Circuit}
use Rattle.found_items.specs.declared.found.ItemAt.{ItemAt}
use Rattle.found_items.specs.Walking.{IsItemAt, CanFind}
use Rattle.found_items.proofs.Lists.{zip_push, among_at}
use Rattle.found_items.proofs.walk.own_of.Goals as goal

pub item_at-print-requires : goal.item_at-print-requires
item_at-print-requires c =
    let same : c.as_slice-prints.result.now ≡ c.args.table.now.fitted.now.checked.resolved.prints = c.as_slice-prints.ensures ∙ ap (λ (x : Circuit). x.prints) c.get.ensures in
    let it = c.requires.there c.loop-number.number-index 0 c.loop-number-test.true in
    slice_get_within c.as_slice-prints.result.now (get_or c.args.own.now c.loop-number.number-index 0) it.0 (ap (λ l. slice_get l (get_or c.args.own.now c.loop-number.number-index 0)) same ∙ it.1)

pub leaves_of-requires-clause-there : goal.leaves_of-requires-clause-there
leaves_of-requires-clause-there c =
    let n = get_or c.args.own.now c.loop-number.number-index 0 in
    let same : c.as_slice-prints.result.now ≡ c.args.table.now.fitted.now.checked.resolved.prints = c.as_slice-prints.ensures ∙ ap (λ (x : Circuit). x.prints) c.get.ensures in
    let it = c.requires.there c.loop-number.number-index 0 c.loop-number-test.true in
    subst (CanFind c.args.table.now.fitted.now.checked.resolved.names c.args.firsts.now.entries) (same_Some it.0 c.item_at-print.result.now (sym it.1 ∙ ap (λ l. slice_get l n) (sym same) ∙ c.item_at-print.ensures)) it.2

pub leaves_of-requires-clause-named : goal.leaves_of-requires-clause-named
leaves_of-requires-clause-named c = λ text i.
    let prints = c.args.table.now.fitted.now.checked.resolved.prints in
    let n = get_or c.args.own.now c.loop-number.number-index 0 in
    let same : c.as_slice-prints.result.now ≡ prints = c.as_slice-prints.ensures ∙ ap (λ (x : Circuit). x.prints) c.get.ensures in
    c.requires.named c.item_at-print.result.now text (among_at prints n c.item_at-print.result.now (ap (λ l. slice_get l n) (sym same) ∙ c.item_at-print.ensures)) i

pub loop-number-preserved : goal.loop-number-preserved
loop-number-preserved c =
    let prints = c.args.table.now.fitted.now.checked.resolved.prints in
    let texts = c.args.table.now.fitted.now.checked.resolved.names in
    let firsts = c.args.firsts.now.entries in
    let same : c.as_slice-prints.result.now ≡ prints = c.as_slice-prints.ensures ∙ ap (λ (x : Circuit). x.prints) c.get.ensures in
    let i = c.loop-number.number-index in
    let own = c.args.own.now in
    let n = get_or own i 0 in
    let less : i < length own = c.loop-number-test.true in
    let found : ItemAt = record { item = n; leaves = c.in_ok-leaves.leaves } in
    let one : IsItemAt texts prints firsts n found = record {
      item = refl;
      print = c.item_at-print.result.now;
      there = ap (λ l. slice_get l n) (sym same) ∙ c.item_at-print.ensures;
      leaves = c.in_ok-leaves.ensures;
    } in
    subst (AllZip (IsItemAt texts prints firsts) (take (i + 1) own)) (sym c.in_ok-push.ensures.items)
    (subst (λ l. AllZip (IsItemAt texts prints firsts) l (c.loop-number.items.items ++ found ∷ [])) (sym (take_more own i 0 less))
    (zip_push (IsItemAt texts prints firsts) (take i own) c.loop-number.items.items n found c.loop-number.invariant one))
