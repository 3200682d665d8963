use Rattle.std.proofs.Common.{refl, subst, arith}
use Rattle.ground_net.specs.Cones.{A_memory}
use Rattle.code_memories.specs.SinkGroups.{EvaluatesOnly}
use Rattle.code_memories.specs.Groups.{IsMemoryGroup}
use Rattle.part_compile.proofs.Places.{memory_place}
use Rattle.part_compile.proofs.Shaping.{one_has_words}
use Rattle.part_compile.proofs.Making.{kept_adds}
use Rattle.part_compile.proofs.Keeping.{has_memory}
use Rattle.part_compile.proofs.OneByOne.{memory_tells}
use Rattle.part_compile.proofs.adding.add_memory.Goals as goal

pub unreachable-requires : goal.unreachable-requires
unreachable-requires c =
    let within = (memory_place c.args.work.now.plan.now.net.now c.args.work.now.plan.now.watch.now c.args.number c.args.memory c.requires.there).1 in
    let few = c.requires.memories in
    c.in_default.ensures (omega (arith, within, few))

pub publish_memory-requires-clause-memory : goal.publish_memory-requires-clause-memory
publish_memory-requires-clause-memory c =
    let net = c.args.work.now.plan.now.net.now in
    has_memory net c.args.work.now.sources.now c.args.memory c.in-Ok.place (memory_place net c.args.work.now.plan.now.watch.now c.args.number c.args.memory c.requires.there).1 c.in-Ok.ensures.1 c.requires.known c.requires.kept

pub own_memory-requires-clause-within : goal.own_memory-requires-clause-within
own_memory-requires-clause-within c = (memory_place c.args.work.now.plan.now.net.now c.args.work.now.plan.now.watch.now c.args.number c.args.memory c.requires.there).1

pub returns-clause-adds : goal.returns-clause-adds
returns-clause-adds c =
    let net = c.args.work.now.plan.now.net.now in
    let watch = c.args.work.now.plan.now.watch.now in
    let S = c.args.work.now.sources.now in
    let place = memory_place net watch c.args.number c.args.memory c.requires.there in
    let ready = c.requires.ready in
    kept_adds net watch S c.args.number (A_memory c.args.memory) c.args.made.now _ place.0
    (memory_tells net S c.args.memory c.in-Ok.place _ _ c.in-Ok.ensures.1 (c.in_ok-publish_memory.ensures.publishes ready.0 ready.1 (one_has_words net _ (A_memory c.in-Ok.place) ready.2))) refl refl c.in_ok-own_memory.ensures

pub returns-clause-evaluates : goal.returns-clause-evaluates
returns-clause-evaluates c =
    let net = c.args.work.now.plan.now.net.now in
    let S = c.args.work.now.sources.now in
    (subst (λ m. EvaluatesOnly S (IsMemoryGroup net m) c.args.made.now.draft c.publish_memory.new.draft) c.in-Ok.ensures.1 c.in_ok-publish_memory.ensures.evaluates, refl)
