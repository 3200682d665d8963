use Rattle.std.proofs.Common.{◌≡◌, ◌<◌, length, sym, subst, ap, ◌∙◌, arith}
use Rattle.std.specs.List.{All}
use Rattle.std.proofs.lemmas.List.Elements.{Contains-get_or}
use Rattle.cone_cutter.specs.Rows.{places_of}
use Rattle.cone_cutter.specs.Walks.{IsOnce}
use Rattle.cone_cutter.proofs.KeyPlaces.{place_from}
use Rattle.cut_refine.proofs.Bounds.{places_once, places_few}
use Rattle.cut_refine.proofs.fullest.Fullest.new.Goals as goal

pub counts_of-requires-clause-within : goal.counts_of-requires-clause-within
counts_of-requires-clause-within c =
    let part = c.first_most-part.result in
    let owners = c.args.standing.now.owners.items in
    let is : c.as_slice-3.result.now ≡ places_of c.args.standing.now.owners.items c.first_most-part.result = c.as_slice-3.ensures.value ∙ (c.in_ok-sinks.ensures ∙ ap (λ o. places_of o part) c.as_slice-2.ensures.value) in
    subst (All (λ k. k < length c.args.rows.now.needed.items)) (sym is)
    (λ k d lt. let from = place_from owners part _ (Contains-get_or (places_of owners part) k d lt) in omega (arith, from.0, c.requires.stands.long))

pub counts_of-requires-clause-once : goal.counts_of-requires-clause-once
counts_of-requires-clause-once c =
    let part = c.first_most-part.result in
    let is : c.as_slice-3.result.now ≡ places_of c.args.standing.now.owners.items c.first_most-part.result = c.as_slice-3.ensures.value ∙ (c.in_ok-sinks.ensures ∙ ap (λ o. places_of o part) c.as_slice-2.ensures.value) in
    subst IsOnce (sym is) (places_once c.args.standing.now.owners.items part)

pub counts_of-requires-clause-few : goal.counts_of-requires-clause-few
counts_of-requires-clause-few c =
    let part = c.first_most-part.result in
    let is : c.as_slice-3.result.now ≡ places_of c.args.standing.now.owners.items c.first_most-part.result = c.as_slice-3.ensures.value ∙ (c.in_ok-sinks.ensures ∙ ap (λ o. places_of o part) c.as_slice-2.ensures.value) in
    omega (arith, ap length is, places_few c.args.standing.now.owners.items part, c.requires.stands.long, c.requires.rows.few_sinks)
