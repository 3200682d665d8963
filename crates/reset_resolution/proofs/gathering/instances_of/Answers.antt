use Rattle.std.proofs.Common.{rules, ◌≡◌, ◌+◌, ◌++◌, ◌∷◌, [], map, take, ap, ◌∙◌, Some}
use Rattle.std.proofs.lemmas.List.{map-append}
use Rattle.reset_search.specs.Feeds.{known_with}
use Rattle.reset_resolution.specs.Walked.{ported}
use Rattle.reset_resolution.proofs.Ported.{instances_next, next}
use Rattle.reset_resolution.proofs.gathering.instances_of.Goals as goal

pub loop-held-preserved : goal.loop-held-preserved
loop-held-preserved c =
    let xs = c.args.modules.now in
    let i = c.loop-held.held-index in
    let m = ported c.held-item.result in
    let all : map ported (take (i + 1) xs) ≡ map ported (take i xs) ++ m ∷ [] = ap (map ported) (next xs i c.held-item.result (search rules) (search rules)) ∙ map-append ported (take i xs) (c.held-item.result ∷ []) in
    instances_next c.loop-held.instances.entries (map ported (take (i + 1) xs)) (map ported (take i xs)) m c.note.new.known.entries all c.loop-held.invariant
    (c.in_ok-note.ensures ∙ ap (λ x. known_with c.loop-held.instances.entries m.holder.name.id (Some x)) c.in_ok-component.ensures)
