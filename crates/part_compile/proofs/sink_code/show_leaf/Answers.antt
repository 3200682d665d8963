use Rattle.std.proofs.Common.{◌≡◌, [], ◌∷◌, ◌++◌, ◌∙◌, ap, refl}
use Rattle.part_compile.proofs.Places.{watched_place}
use Rattle.part_compile.proofs.Shaping.{watched_shaped}
use Rattle.part_compile.proofs.Making.{watched_adds}
use Rattle.part_compile.proofs.sink_code.show_leaf.Goals as goal

pub emit-requires : goal.emit-requires
emit-requires c =
    let net = c.args.work.now.plan.now.net.now in
    let watch = c.args.work.now.plan.now.watch.now in
    let place = watched_place net watch c.args.number c.args.leaf c.requires.there in
    watched_shaped net watch c.args.work.now.sources.now c.args.number c.args.leaf c.requires.plan.watched place.0 place.1 c.requires.known

pub returns-clause-adds : goal.returns-clause-adds
returns-clause-adds c =
    let net = c.args.work.now.plan.now.net.now in
    let watch = c.args.work.now.plan.now.watch.now in
    let place = watched_place net watch c.args.number c.args.leaf c.requires.there in
    watched_adds net watch c.args.work.now.sources.now c.args.number c.args.leaf _ _ c.in_ok-location.location place.0 place.1 c.requires.ready.0 c.requires.ready.1 c.in_ok-location.ensures.emits c.in_ok-push.ensures.ok c.in_ok-push-2.ensures.ok refl

pub returns-clause-shows : goal.returns-clause-shows
returns-clause-shows c = λ t at.
    let h = c.in_ok-location.ensures.stands c.args.leaf t refl at in
    (h.1, c.in_ok-push.ensures.ok ∙ ap (λ s. c.args.made.now.shown ++ s ∷ []) h.0)
