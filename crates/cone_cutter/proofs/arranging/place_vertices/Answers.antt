use Rattle.std.proofs.Common.{◌≡◌, [], ◌∷◌, take, slice_index, sym, subst, ap, ◌∙◌, arith}
use Rattle.std.proofs.lemmas.List.{take_more, take_all}
use Rattle.cone_cutter.specs.Marks.{PlacesVertices}
use Rattle.cone_cutter.proofs.VertexOrder.{vertices_none, vertices_then, ready_on}
use Rattle.cone_cutter.proofs.arranging.place_vertices.Goals as goal

pub loop-number-init : goal.loop-number-init
loop-number-init c = vertices_none c.args.rows.now c.args.arranged.now c.requires.arranged

pub place_number-requires-clause-arranged : goal.place_number-requires-clause-arranged
place_number-requires-clause-arranged c = c.loop-number.invariant.arranged

pub place_number-requires-clause-inside : goal.place_number-requires-clause-inside
place_number-requires-clause-inside c = c.requires.inside c.loop-number.number-index 0 c.loop-number-test.true

pub place_number-requires-clause-ready : goal.place_number-requires-clause-ready
place_number-requires-clause-ready c = ready_on c.args.rows.now c.args.row.now c.args.arranged.now c.loop-number.arranged c.loop-number.number-index c.loop-number-test.true c.requires.ready c.loop-number.invariant

pub loop-number-preserved : goal.loop-number-preserved
loop-number-preserved c =
    let row = c.args.row.now in
    let i = c.loop-number.number-index in
    subst (λ s. PlacesVertices c.args.rows.now s c.args.arranged.now c.place_number.new.arranged) (sym (take_more row i 0 c.loop-number-test.true))
    (vertices_then c.args.rows.now (take i row) (slice_index row i ∷ []) c.args.arranged.now c.loop-number.arranged c.place_number.new.arranged c.loop-number.invariant c.in_ok-place_number.ensures)

pub returns : goal.returns
returns c =
    subst (λ s. PlacesVertices c.args.rows.now s c.args.arranged.now c.loop-number.arranged) (take_all c.loop-number.number-index c.args.row.now (omega (arith, c.loop-number-test.false))) c.loop-number.invariant
