use Rattle.std.proofs.Common.{◌≡◌, ℕ, ◌+◌, ◌<◌, length, slice_index, refl, subst, sym, ap, ◌∙◌, arith}
use Rattle.ground_net.specs.Cones.{A_register}
use Rattle.ground_net.specs.Words.{register_word}
use Rattle.code_memories.specs.Telling.{IsNextShaped}
use Rattle.part_compile.proofs.Places.{register_place}
use Rattle.part_compile.proofs.Shaping.{next_shaped, one_has_words, only_item}
use Rattle.part_compile.proofs.Making.{kept_adds}
use Rattle.part_compile.proofs.Owning.{found, few_registers}
use Rattle.std.proofs.lemmas.List.{append-nil}
use Rattle.code_emit.specs.Spans.{EvaluatesAll}
use Rattle.code_memories.specs.SinkGroups.{register_groups}
use Rattle.part_compile.proofs.sink_code.add_register.Goals as goal

pub overflow_cast-place : goal.overflow_cast-place
overflow_cast-place c =
    let net = c.args.work.now.plan.now.net.now in
    let lt = (register_place net c.args.work.now.plan.now.watch.now c.args.number c.args.register c.requires.there).1 in
    let few = few_registers net in
    let small = c.requires.plan.few in
    omega (arith, lt, few, small)

pub offset_bounds-as_slice-register : goal.offset_bounds-as_slice-register
offset_bounds-as_slice-register c =
    let net = c.args.work.now.plan.now.net.now in
    let lt = (register_place net c.args.work.now.plan.now.watch.now c.args.number c.args.register c.requires.there).1 in
    let few = few_registers net in
    let small = c.requires.plan.few in
    omega (arith, lt, few, small)

pub bounds-as_slice-register : goal.bounds-as_slice-register
bounds-as_slice-register c =
    let net = c.args.work.now.plan.now.net.now in
    let lt = (register_place net c.args.work.now.plan.now.watch.now c.args.number c.args.register c.requires.there).1 in
    let long = c.requires.plan.first.all_registers in
    let same = ap length c.as_slice.ensures in
    omega (arith, lt, long, same)

pub publish_registers-requires-clause-shaped : goal.publish_registers-requires-clause-shaped
publish_registers-requires-clause-shaped c = λ k d lt.
    let net = c.args.work.now.plan.now.net.now in
    let S = c.args.work.now.sources.now in
    let n = c.args.register in
    let place = (register_place net c.args.work.now.plan.now.watch.now c.args.number c.args.register c.requires.there).1 in
    let r = found net.registers n place in
    only_item (λ (both : ℕ × ℕ). IsNextShaped net S both.0) _ d k lt (next_shaped net c.requires.plan.is_net n r.0 r.1 S c.requires.known)

pub publish_registers-requires-clause-words : goal.publish_registers-requires-clause-words
publish_registers-requires-clause-words c = λ k d lt.
    let net = c.args.work.now.plan.now.net.now in
    let n = c.args.register in
    let place = (register_place net c.args.work.now.plan.now.watch.now c.args.number c.args.register c.requires.there).1 in
    only_item (λ (both : ℕ × ℕ). both.1 ≡ register_word net both.0) _ d k lt (ap (λ l. slice_index l n) c.as_slice.ensures ∙ c.requires.plan.first.registers n (omega (arith, place)))

pub own_register-requires-clause-within : goal.own_register-requires-clause-within
own_register-requires-clause-within c = (register_place c.args.work.now.plan.now.net.now c.args.work.now.plan.now.watch.now c.args.number c.args.register c.requires.there).1

pub returns-clause-adds : goal.returns-clause-adds
returns-clause-adds c =
    let net = c.args.work.now.plan.now.net.now in
    let watch = c.args.work.now.plan.now.watch.now in
    let place = register_place net watch c.args.number c.args.register c.requires.there in
    let ready = c.requires.ready in
    kept_adds net watch c.args.work.now.sources.now c.args.number (A_register c.args.register) c.args.made.now _ place.0
    (c.in_ok-publish_registers.ensures.publishes ready.0 ready.1 (one_has_words net _ (A_register c.args.register) ready.2)) refl refl c.in_ok-own_register.ensures

pub returns-clause-evaluates : goal.returns-clause-evaluates
returns-clause-evaluates c =
    let net = c.args.work.now.plan.now.net.now in
    let S = c.args.work.now.sources.now in
    record {
      evaluates = subst (λ gs. EvaluatesAll S gs c.args.made.now.draft c.publish_registers.new.draft) (append-nil (register_groups net c.args.register)) c.in_ok-publish_registers.ensures.evaluates;
      shown = refl;
    }
