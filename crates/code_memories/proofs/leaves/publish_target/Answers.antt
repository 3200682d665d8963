use Rattle.std.proofs.Common.{ℕ, [], ◌∷◌, map, refl}
use Rattle.ground_net.specs.declared.net.Net.{Net}
use Rattle.flat_code.specs.declared.instr.Port.{Port}
use Rattle.code_draft.specs.Writing.{PublishesBy}
use Rattle.code_memories.specs.Writes.{TellsTarget}
use Rattle.code_memories.proofs.Targets.{on_ok_so, target_told}
use Rattle.ground_net.specs.declared.ground.Ground.TheVariants.{Leaf}
use Rattle.flat_code.specs.Fine.{slots_of}
use Rattle.code_draft.specs.Segments.{Segment}
use Rattle.code_emit.specs.Spans.{EvaluatesAll}
use Rattle.code_memories.proofs.WriteEvaluating.{target_evaluated}
use Rattle.code_memories.proofs.leaves.publish_target.Goals as goal

pub returns-clause-tells : goal.returns-clause-tells
returns-clause-tells c =
    let S = c.args.sources.now in
    let t = c.args.target in
    let xs = c.args.conditions.now in
    let a = c.args.draft.now in
    let b = c.emit_leaf.new.draft in
    let d1 = c.emit_leaf-2.new.draft in
    let d2 = c.emit_leaves.new.draft in
    let e = c.publish_by.new.draft in
    let A = c.in_ok-address.address in
    let B = c.in_ok-source.source in
    let ss = c.in_ok-conditions.conditions in
    let p : Port = record { region = t.region; conditions = ss; address = A; source = B } in
    on_ok_so (PublishesBy d2 e p) ((net : Net) → TellsTarget net S t xs a e) c.publish_by.result c.publish_by.ensures.publishes (λ last net.
    target_told net S t xs a b d1 d2 e A B ss p c.in_ok-address.ensures.emits c.in_ok-source.ensures.emits c.in_ok-conditions.ensures.emits c.in_ok-source.ensures.shape refl refl refl refl last)

pub returns-clause-evaluates : goal.returns-clause-evaluates
returns-clause-evaluates c =
    let S = c.args.sources.now in
    let t = c.args.target in
    let xs = c.args.conditions.now in
    let a = c.args.draft.now in
    let b = c.emit_leaf.new.draft in
    let d1 = c.emit_leaf-2.new.draft in
    let d2 = c.emit_leaves.new.draft in
    let e = c.publish_by.new.draft in
    let A = c.in_ok-address.address in
    let B = c.in_ok-source.source in
    let ss = c.in_ok-conditions.conditions in
    on_ok_so (Segment d2 e (slots_of (A ∷ B ∷ ss)) [] 0) (EvaluatesAll S ((Leaf t.address ∷ Leaf t.source ∷ map (λ (x : ℕ). Leaf x) xs) ∷ []) a e) c.publish_by.result c.publish_by.ensures.segment (λ told.
    target_evaluated S t.address t.source xs a b d1 d2 e A B ss c.in_ok-address.ensures.spans c.in_ok-source.ensures.spans c.in_ok-conditions.ensures.spans told)
