use Rattle.std.proofs.Common.{◌≡◌, ◌^◌, ◌<◌, [], sym, subst, ◌∙◌, arith}
use Rattle.std.specs.List.{All}
use Rattle.std.proofs.lemmas.List.{get_or_read}
use Rattle.cone_cutter.specs.Rows.{places_of}
use Rattle.cone_cutter.proofs.Assembly.{parts_more, places_small}
use Rattle.cone_cutter.proofs.cutting.parts_of.Goals as goal

pub numbers_of-requires : goal.numbers_of-requires
numbers_of-requires c =
    let row = get_or_read c.in_ok-rows.rows.items _ _ (omega (arith, c.in_ok-rows.ensures.count, c.loop-number-test.true)) c.index.ensures [] in
    let is : c.as_slice.result.now ≡ places_of c.args.owners.now c.loop-number.number = c.as_slice.ensures ∙ (row ∙ c.in_ok-rows.ensures.rows c.loop-number.number c.loop-number-test.true) in
    subst (All (λ place. place < 2 ^ 32)) (sym is) (places_small c.args.owners.now c.loop-number.number (2 ^ 32) c.requires.few)

pub loop-number-preserved : goal.loop-number-preserved
loop-number-preserved c =
    let row = get_or_read c.in_ok-rows.rows.items _ _ (omega (arith, c.in_ok-rows.ensures.count, c.loop-number-test.true)) c.index.ensures [] in
    let is : c.as_slice.result.now ≡ places_of c.args.owners.now c.loop-number.number = c.as_slice.ensures ∙ (row ∙ c.in_ok-rows.ensures.rows c.loop-number.number c.loop-number-test.true) in
    parts_more c.args.owners.now c.args.masks.now c.args.sequence.now c.loop-number.number c.push.new.self c.loop-number.parts _ _ c.in_ok-push.ensures.ok c.loop-number.invariant (c.in_ok-sinks.ensures ∙ is) c.in_ok-assignments.ensures
