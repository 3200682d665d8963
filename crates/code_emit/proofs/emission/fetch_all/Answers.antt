use Rattle.std.proofs.Common.{◌≡◌, get_or, refl, Some, [], ◌∷◌, ◌++◌, ◌+◌, take, sym, subst, ap, ◌∙◌}
use Rattle.std.proofs.lemmas.List.{take_more, map-append}
use Rattle.ground_net.specs.declared.ground.Ground.TheVariants.{Leaf}
use Rattle.ground_net.specs.Shapes.{all_of}
use Rattle.flat_code.specs.Fine.{location_shapes}
use Rattle.code_emit.specs.Emits.{as_leaves, sources_table, shapes_in, EmitsAll}
use Rattle.code_emit.specs.Spans.{SpansAll}
use Rattle.code_emit.proofs.Arms.{one_more_shape}
use Rattle.code_emit.proofs.Emitting.{none_emitted, one_more_emitted}
use Rattle.code_emit.proofs.Spanning.{none_spans, one_more_spans}
use Rattle.code_emit.proofs.Indexing.{leaf_at}
use Rattle.code_emit.proofs.emission.fetch_all.Goals as goal

pub emit_leaf-requires : goal.emit_leaf-requires
emit_leaf-requires c = leaf_at (sources_table c.args.sources.now) c.args.leaves.now c.loop-leaf.leaf-index (get_or c.args.leaves.now c.loop-leaf.leaf-index 0) c.requires c.loop-leaf-test.true refl

pub loop-leaf-init : goal.loop-leaf-init
loop-leaf-init c =
    let S = c.args.sources.now in
    let d = c.args.draft.now in
    let none : c.new-locations.result ≡ [] = c.new-locations.ensures in
    record {
      shapes = ap (λ xs. Some (location_shapes xs)) (sym none);
      emits = subst (EmitsAll S [] d d) (sym none) (none_emitted S d);
      spans = subst (SpansAll S [] d d) (sym none) (none_spans S d);
    }

pub loop-leaf-preserved : goal.loop-leaf-preserved
loop-leaf-preserved c =
    let S = c.args.sources.now in
    let ns = c.args.leaves.now in
    let k = c.loop-leaf.leaf-index in
    let x = get_or ns k 0 in
    let ss = c.loop-leaf.locations in
    let s = c.in_ok-emit_leaf.field-0 in
    let longer : as_leaves (take (k + 1) ns) ≡ as_leaves (take k ns) ++ Leaf x ∷ [] =
    ap as_leaves (take_more ns k 0 c.loop-leaf-test.true) ∙ map-append (λ y. Leaf y) (take k ns) (x ∷ []) in
    let locations = c.in_ok-push.ensures.ok in
    record {
      shapes = ap (λ hs. all_of (shapes_in (sources_table S) hs)) longer ∙ (one_more_shape (sources_table S) (as_leaves (take k ns)) (Leaf x) ss s c.loop-leaf.invariant.shapes c.in_ok-emit_leaf.ensures.shape
          ∙ ap (λ xs. Some (location_shapes xs)) (sym locations));
      emits = subst (λ hs. EmitsAll S hs c.args.draft.now c.emit_leaf.new.draft c.push.new.self) (sym longer)
          (subst (λ xs. EmitsAll S (as_leaves (take k ns) ++ Leaf x ∷ []) c.args.draft.now c.emit_leaf.new.draft xs) (sym locations)
          (one_more_emitted S (as_leaves (take k ns)) (Leaf x) c.args.draft.now c.loop-leaf.draft c.emit_leaf.new.draft ss s c.loop-leaf.invariant.emits c.in_ok-emit_leaf.ensures.emits));
      spans = subst (λ hs. SpansAll S hs c.args.draft.now c.emit_leaf.new.draft c.push.new.self) (sym longer)
          (subst (λ xs. SpansAll S (as_leaves (take k ns) ++ Leaf x ∷ []) c.args.draft.now c.emit_leaf.new.draft xs) (sym locations)
          (one_more_spans S (as_leaves (take k ns)) (Leaf x) c.args.draft.now c.loop-leaf.draft c.emit_leaf.new.draft ss s c.loop-leaf.invariant.spans c.in_ok-emit_leaf.ensures.spans));
    }
