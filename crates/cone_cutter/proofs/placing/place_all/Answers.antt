use Rattle.std.proofs.Common.{◌≡◌, ◌+◌, ◌<◌, [], ◌∷◌, ◌++◌, length, slice_index, sym, subst, ap, ◌∙◌, arith, get_or}
use Rattle.std.specs.List.{All}
use Rattle.std.proofs.lemmas.List.{take_more, take_all, length_push}
use Rattle.std.proofs.lemmas.List.Elements.{Contains-get_or}
use Rattle.cone_cutter.specs.Cuts.{Lists, placed}
use Rattle.cone_cutter.specs.Rows.{reads_in, needs_in, Met}
use Rattle.cone_cutter.specs.Walks.{FindsCone}
use Rattle.cone_cutter.specs.Loads.{IsLoad, Takes, HasRoom}
use Rattle.cone_cutter.proofs.Walks.{row_is, row_below}
use Rattle.cone_cutter.proofs.Wide.{reads_long, need_in}
use Rattle.cone_cutter.proofs.LoadSteps.{load_begins, load_more, placed_push}
use Rattle.cone_cutter.proofs.placing.place_all.Goals as goal

pub loop-turn-init : goal.loop-turn-init
loop-turn-init c =
    let rows = c.args.rows.now in
    record {
      load = load_begins (reads_in rows) (needs_in rows) c.args.workers c.new-placings.result.items c.in_ok-load.load c.new-placings.ensures.items
          (subst (λ n. HasRoom n c.args.workers c.in_ok-load.load) (sym (reads_long rows)) c.in_ok-load.ensures.room) c.in_ok-load.ensures.masks c.in_ok-load.ensures.costs;
      order = ap placed c.new-placings.ensures.items;
      count = ap length c.new-placings.ensures.items;
      long = omega (arith, ap length c.as_mut_slice-stamps.ensures.value, c.in_ok-stamp_table.ensures.count, c.len.ensures, rows.reads.ok.0);
      early = λ v. omega (arith, ap (λ s. slice_index s v) c.as_mut_slice-stamps.ensures.value, c.in_ok-stamp_table.ensures.none v);
    }

pub walk_cone-requires-clause-roots : goal.walk_cone-requires-clause-roots
walk_cone-requires-clause-roots c =
    let rows = c.args.rows.now in
    let sink = slice_index c.args.order.now c.loop-turn.turn in
    let inside : sink < length c.args.rows.now.needed.items = c.requires.sinks c.loop-turn.turn 0 c.loop-turn-test.true in
    let is = c.index-needed-sink.is ∙ ap (λ s. get_or s sink c.index-needed-sink.result) c.as_slice-needed.ensures.value in
    let below = row_below rows.needed.items (length rows.reads.items) sink c.index-needed-sink.result c.requires.rows.needs_inside inside is in
    subst (λ n. All (λ x. x < n) c.as_slice.result.now) (sym c.loop-turn.invariant.long) (subst (All (λ x. x < length c.args.rows.now.reads.items)) (sym c.as_slice.ensures) below)

pub take-part-requires-clause-within : goal.take-part-requires-clause-within
take-part-requires-clause-within c =
    let rows = c.args.rows.now in
    subst (λ s. All (λ x. x < length c.loop-turn.load.masks.items) s) (sym c.as_slice-in-loop-turn.ensures.value)
    (λ k d lt. omega (arith, c.in_ok-walk_cone.ensures.within _ (Contains-get_or c.walk_cone.new.found.items k d lt), reads_long rows, c.loop-turn.invariant.load.room.masks))

pub loop-turn-preserved : goal.loop-turn-preserved
loop-turn-preserved c =
    let rows = c.args.rows.now in
    let turn = c.loop-turn.turn in
    let sink = slice_index c.args.order.now c.loop-turn.turn in
    let inv = c.loop-turn.invariant in
    let inside : slice_index c.args.order.now c.loop-turn.turn < length c.args.rows.now.needed.items = c.requires.sinks turn 0 c.loop-turn-test.true in
    let is = c.index-needed-sink.is ∙ ap (λ s. get_or s sink c.index-needed-sink.result) c.as_slice-needed.ensures.value in
    let row = c.as_slice.ensures ∙ row_is rows.needed.items sink c.index-needed-sink.result inside is in
    let cone = subst (λ r. FindsCone c.args.rows.now r (c.loop-turn.turn + 1) c.loop-turn.stamps c.walk_cone.new.stamps c.walk_cone.new.found.items) row c.in_ok-walk_cone.ensures in
    let taken = subst (λ s. Takes s c.loop-turn.load c.take-part.new.self c.take-part.result) c.as_slice-in-loop-turn.ensures.value c.take-part.ensures in
    record {
      load = subst (λ s. IsLoad (reads_in c.args.rows.now) (needs_in c.args.rows.now) c.args.workers s c.take-part.new.self) (sym c.in_ok-push.ensures.items)
          (load_more (reads_in rows) (needs_in rows) c.args.workers c.loop-turn.placings.items c.loop-turn.load c.take-part.new.self sink c.take-part.result c.walk_cone.new.found.items inv.load
          (subst (λ r. Lists (Met (reads_in c.args.rows.now) r) c.walk_cone.new.found.items) (sym (need_in rows sink)) cone.listed) (λ x f. omega (arith, cone.within x f, reads_long rows)) taken
          (omega (arith, cone.few, c.requires.few)));
      order = ap placed c.in_ok-push.ensures.items ∙ (placed_push c.loop-turn.placings.items _ ∙ (ap (λ s. s ++ sink ∷ []) inv.order ∙ sym (take_more c.args.order.now turn 0 c.loop-turn-test.true)));
      count = ap length c.in_ok-push.ensures.items ∙ (length_push c.loop-turn.placings.items _ ∙ ap (λ n. n + 1) inv.count);
      long = cone.long ∙ inv.long;
      early = cone.early;
    }

pub returns-clause-load : goal.returns-clause-load
returns-clause-load c = c.loop-turn.invariant.load

pub returns-clause-order : goal.returns-clause-order
returns-clause-order c = c.loop-turn.invariant.order ∙ take_all c.loop-turn.turn c.args.order.now (omega (arith, c.loop-turn-test.false))
