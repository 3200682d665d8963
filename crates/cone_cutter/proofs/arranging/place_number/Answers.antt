use Rattle.std.proofs.Common.{◌≡◌, ◌<◌, ◌≤◌, true, false, [], length, get_or, slice_set, refl, sym, ap, ◌∙◌, arith}
use Rattle.std.specs.Vec.{with_items}
use Rattle.std.proofs.lemmas.List.{length-set, with_items_is}
use Rattle.cone_cutter.specs.declared.arranging.Arranged.{Arranged}
use Rattle.cone_cutter.proofs.Lists.{first_in}
use Rattle.cone_cutter.proofs.VertexOrder.{vertices_none, vertices_kept, vertices_more}
use Rattle.cone_cutter.proofs.arranging.place_number.Goals as goal

pub returns-then-number-rows : goal.returns-then-number-rows
returns-then-number-rows c =
    vertices_kept c.args.rows.now [] c.args.arranged.now c.args.arranged.now c.args.number (vertices_none c.args.rows.now c.args.arranged.now c.requires.arranged) (λ le. absurd (omega arith))

pub returns-then-is_placed : goal.returns-then-is_placed
returns-then-is_placed c =
    let x = c.args.number in
    vertices_kept c.args.rows.now [] c.args.arranged.now c.args.arranged.now c.args.number (vertices_none c.args.rows.now c.args.arranged.now c.requires.arranged)
    (λ le. ap (λ s. get_or s x false) (sym c.as_slice.ensures.value) ∙ (sym c.is_placed.ensures ∙ c.if-is_placed.true))

pub returns : goal.returns
returns c =
    let old = c.args.arranged.now in
    let x = c.args.number in
    let behind : c.args.rows.now.leaves ≤ c.args.number = omega arith in
    let free : get_or c.args.arranged.now.placed.items c.args.number false ≡ false = ap (λ s. get_or s x false) (sym c.as_slice.ensures.value) ∙ (sym c.is_placed.ensures ∙ c.if-is_placed.false) in
    let marked : c.mark.new.placed ≡ slice_set c.args.arranged.now.placed.items c.args.number true = c.mark.ensures ∙ ap (λ fs. slice_set fs x true) c.as_mut_slice.ensures.value in
    let long : length c.mark.new.placed ≡ length c.args.arranged.now.placed.items = ap length marked ∙ length-set c.args.arranged.now.placed.items x true in
    let new : Arranged = record { placed = with_items c.args.arranged.now.placed c.mark.new.placed; all = c.push.new.self } in
    vertices_more c.args.rows.now [] old old new x (vertices_none c.args.rows.now old c.requires.arranged) behind (omega (arith, c.requires.inside, c.requires.arranged.long)) free
    (λ y d. c.requires.ready x y (first_in x [] x refl) behind d) c.in_ok-push.ensures.items (with_items_is c.args.arranged.now.placed c.mark.new.placed (omega (arith, long, c.args.arranged.now.placed.ok.0)) ∙ marked)
