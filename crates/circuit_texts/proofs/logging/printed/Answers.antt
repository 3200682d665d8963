use Rattle.std.proofs.Common.{◌≡◌, ◌∙◌, ◌+◌, ap, sym, subst, map, take, List, [], ◌∷◌, ◌++◌}
use Rattle.std.specs.Prelude.{Some, slice_get}
use Rattle.std.proofs.lemmas.List.{take_more, map-append}
use Rattle.std.proofs.lemmas.Option.{slice_get_within}
use Rattle.fir_tree.specs.declared.print.PrintItem.{PrintItem}
use Rattle.found_items.specs.declared.found.ItemAt.{ItemAt}
use Rattle.found_items.proofs.Lists.{zip_push}
use Rattle.circuit_texts.specs.Watched.{ArePrints}
use Rattle.circuit_texts.proofs.logging.printed.Goals as goal

pub item_at-print-requires : goal.item_at-print-requires
item_at-print-requires c =
    let r = c.requires c.loop-it.it-index c.it-item.result c.loop-it-test.true in
    slice_get_within c.args.prints.now c.it-item.result.item r.0 (subst (λ (x : ItemAt). slice_get c.args.prints.now x.item ≡ Some r.0) (sym c.it-item.is) r.1)

pub loop-it-preserved : goal.loop-it-preserved
loop-it-preserved c =
    let prints = c.args.prints.now in
    let found = c.args.found.now in
    let i = c.loop-it.it-index in
    let it = c.it-item.result in
    let p : PrintItem = c.item_at-print.result.now in
    let more : take (i + 1) found ≡ take i found ++ it ∷ [] = take_more found i it c.loop-it-test.true ∙ ap (λ (x : ItemAt). take i found ++ x ∷ []) (sym c.it-item.is) in
    let items : List PrintItem = map (λ item. item.now) c.loop-it.items in
    let now : map (λ item. item.now) c.push.new.self ≡ items ++ p ∷ [] = ap (map (λ item. item.now)) c.in_ok-push.ensures.ok ∙ map-append (λ item. item.now) c.loop-it.items _ in
    subst (λ l. ArePrints prints l (map (λ item. item.now) c.push.new.self)) (sym more)
    (subst (ArePrints prints (take i found ++ it ∷ [])) (sym now) (zip_push (λ (x : ItemAt) q. slice_get prints x.item ≡ Some q) (take i found) items it p c.loop-it.invariant c.item_at-print.ensures))
