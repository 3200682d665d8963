use Rattle.std.proofs.Common.{[], subst, sym, ◌∙◌, arith, refl}
use Rattle.std.proofs.lemmas.List.{get_or_read}
use Rattle.cone_cutter.specs.Marks.{AreReady, PlacesVertices}
use Rattle.cone_cutter.proofs.VertexOrder.{leaf_ready, leaf_placed}
use Rattle.cone_cutter.proofs.arranging.place_leaf.Goals as goal

pub place_vertices-requires-clause-ready : goal.place_vertices-requires-clause-ready
place_vertices-requires-clause-ready c =
    let row = c.as_slice.ensures ∙ get_or_read c.args.rows.now.reads.items _ _ (omega (arith, c.requires.within, c.requires.rows.count)) c.index.ensures [] in
    subst (λ r. AreReady c.args.rows.now r c.args.arranged.now) (sym row) (leaf_ready c.args.rows.now c.requires.rows c.args.leaf c.requires.within c.args.arranged.now c.requires.ready)

pub returns : goal.returns
returns c =
    let row = c.as_slice.ensures ∙ get_or_read c.args.rows.now.reads.items _ _ (omega (arith, c.requires.within, c.requires.rows.count)) c.index.ensures [] in
    let placed = subst (λ r. PlacesVertices c.args.rows.now r c.args.arranged.now c.place_vertices.new.arranged) row c.in_ok-place_vertices.ensures in
    leaf_placed c.args.rows.now c.requires.rows c.args.leaf c.requires.within c.args.arranged.now c.requires.ready c.place_vertices.new.arranged (record { placed = c.place_vertices.new.arranged.placed; all = c.push.new.self })
    placed c.requires.new c.in_ok-push.ensures.items refl
