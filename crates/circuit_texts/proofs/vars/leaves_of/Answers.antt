use Rattle.std.proofs.Common.{◌≡◌, ◌+◌, ◌<◌, [], ◌∷◌, ◌++◌, length, take, get_or, Some, sym, ap, subst, ◌∙◌}
use Rattle.std.specs.Prelude.{slice_get}
use Rattle.std.specs.List.{AllZip}
use Rattle.std.proofs.lemmas.List.{take_more}
use Rattle.std.proofs.lemmas.Option.{slice_get-get_or}
use Rattle.ground_net.specs.declared.net.Leaf.{Leaf}
use Rattle.ground_net.specs.declared.net.PortLeaf.{PortLeaf}
use Rattle.circuit_texts.specs.NetNames.{IsLeafAt}
use Rattle.circuit_texts.proofs.Zips.{zip_push}
use Rattle.circuit_texts.proofs.vars.leaves_of.Goals as goal

pub loop-number-preserved : goal.loop-number-preserved
loop-number-preserved c =
    let leaves = c.args.leaves.now in
    let watch = c.args.watch.now in
    let k = c.loop-number.number-index in
    let lt : k < length watch = c.loop-number-test.true in
    let item = get_or watch k 0 in
    let leaf : Leaf = c.index-leaves-number.result in
    let inside : item < length leaves = c.requires k 0 lt in
    let there : slice_get leaves item ≡ Some leaf = slice_get-get_or leaves item leaf inside ∙ ap Some (sym c.index-leaves-number.is) in
    let var : PortLeaf = c.in_ok-told.field-0 in
    let one : IsLeafAt leaves item var = record { leaf = leaf; there = there; is = c.in_ok-told.ensures } in
    subst (AllZip (IsLeafAt leaves) (take (k + 1) watch)) (sym c.in_ok-push.ensures.ok)
    (subst (λ l. AllZip (IsLeafAt leaves) l (c.loop-number.vars ++ var ∷ [])) (sym (take_more watch k 0 lt)) (zip_push (IsLeafAt leaves) (take k watch) c.loop-number.vars item var c.loop-number.invariant one))
