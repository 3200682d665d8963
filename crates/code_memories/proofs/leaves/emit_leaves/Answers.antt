use Rattle.std.proofs.Common.{◌≡◌, ℕ, List, [], ◌∷◌, ◌++◌, map, take, get_or, sym, subst}
use Rattle.std.proofs.lemmas.List.{take_all}
use Rattle.ground_net.specs.declared.ground.Ground.{Ground}
use Rattle.ground_net.specs.declared.ground.Ground.TheVariants.{Leaf}
use Rattle.code_emit.specs.Emits.{EmitsAll}
use Rattle.code_emit.specs.Spans.{SpansAll}
use Rattle.code_emit.proofs.Emitting.{none_emitted, one_more_emitted}
use Rattle.code_emit.proofs.Spanning.{none_spans, one_more_spans}
use Rattle.code_memories.proofs.Targets.{leaves_more}
use Rattle.code_memories.proofs.leaves.emit_leaves.Goals as goal

pub loop-leaf-init : goal.loop-leaf-init
loop-leaf-init c =
    let S = c.args.sources.now in
    let d = c.args.draft.now in
    let none : c.new-locations.result ≡ [] = c.new-locations.ensures in
    record { emits = subst (EmitsAll S [] d d) (sym none) (none_emitted S d); spans = subst (SpansAll S [] d d) (sym none) (none_spans S d) }

pub loop-leaf-preserved : goal.loop-leaf-preserved
loop-leaf-preserved c =
    let S = c.args.sources.now in
    let xs = c.args.leaves.now in
    let k = c.loop-leaf.leaf-index in
    let a = c.args.draft.now in
    let b = c.loop-leaf.draft in
    let e = c.emit_leaf.new.draft in
    let gs : List Ground = map (λ (x : ℕ). Leaf x) (take k xs) in
    record {
      emits = subst (λ hs. EmitsAll S hs a e c.push.new.self) (sym (leaves_more xs k 0 c.loop-leaf-test.true))
          (subst (λ ss. EmitsAll S (gs ++ Leaf (get_or xs k 0) ∷ []) a e ss) (sym c.in_ok-push.ensures.ok)
          (one_more_emitted S gs (Leaf (get_or xs k 0)) a b e c.loop-leaf.locations c.in_ok-location.location c.loop-leaf.invariant.emits c.in_ok-location.ensures.emits));
      spans = subst (λ hs. SpansAll S hs a e c.push.new.self) (sym (leaves_more xs k 0 c.loop-leaf-test.true))
          (subst (λ ss. SpansAll S (gs ++ Leaf (get_or xs k 0) ∷ []) a e ss) (sym c.in_ok-push.ensures.ok)
          (one_more_spans S gs (Leaf (get_or xs k 0)) a b e c.loop-leaf.locations c.in_ok-location.location c.loop-leaf.invariant.spans c.in_ok-location.ensures.spans));
    }

pub returns-clause-emits : goal.returns-clause-emits
returns-clause-emits c =
    subst (λ ys. EmitsAll c.args.sources.now (map (λ (x : ℕ). Leaf x) ys) c.args.draft.now c.loop-leaf.draft c.loop-leaf.locations) (take_all c.loop-leaf.leaf-index c.args.leaves.now c.loop-leaf-test.false) c.loop-leaf.invariant.emits

pub returns-clause-spans : goal.returns-clause-spans
returns-clause-spans c =
    subst (λ ys. SpansAll c.args.sources.now (map (λ (x : ℕ). Leaf x) ys) c.args.draft.now c.loop-leaf.draft c.loop-leaf.locations) (take_all c.loop-leaf.leaf-index c.args.leaves.now c.loop-leaf-test.false) c.loop-leaf.invariant.spans
