use Rattle.std.proofs.Common.{◌≡◌, ◌<◌, length, sym, subst, ap, ◌∙◌, arith}
use Rattle.std.specs.List.{All, range_with_len}
use Rattle.ground_net.specs.Cones.{sinks}
use Rattle.cone_cutter.specs.Cuts.{Lists, Counts, NeededBy}
use Rattle.cone_cutter.specs.Rows.{ConeAt, reads_in, needs_in}
use Rattle.cone_cutter.specs.Loads.{parts_by}
use Rattle.cone_cutter.specs.Marks.{IsRowOrder, AreInOrder}
use Rattle.cone_cutter.proofs.Wide.{reads_long, needs_long}
use Rattle.cone_cutter.proofs.Assembly.{is_cut, need_rows_long, sequence_within, rows_in_order, needs_in_order}
use Rattle.cone_cutter.proofs.cutting.cut.Goals as goal

pub new-requires-2-clause-few : goal.new-requires-2-clause-few
new-requires-2-clause-few c = omega (arith, c.in_ok-rows.ensures.leaves, c.requires.few)

pub new-requires-2-clause-few_sinks : goal.new-requires-2-clause-few_sinks
new-requires-2-clause-few_sinks c =
    omega (arith, needs_long c.in_ok-rows.rows, ap length c.in_ok-rows.ensures.needed, need_rows_long c.args.ordered.now.net (sinks c.args.ordered.now.net c.args.watch.now), c.requires.few_sinks)

pub new-requires-2-clause-order : goal.new-requires-2-clause-order
new-requires-2-clause-order c =
    subst (λ s. IsRowOrder (reads_in c.in_ok-rows.rows) s) (sym c.as_slice-sequence.ensures)
    (rows_in_order c.args.ordered.now.net c.args.watch.now c.args.ordered.now.sequence (reads_in c.in_ok-rows.rows) (needs_in c.in_ok-rows.rows) c.in_ok-rows.ensures.reads c.in_ok-rows.ensures.needed c.requires.order)

pub new-requires-2-clause-needs_in_order : goal.new-requires-2-clause-needs_in_order
new-requires-2-clause-needs_in_order c =
    subst (λ s. AreInOrder (needs_in c.in_ok-rows.rows) s) (sym c.as_slice-sequence.ensures)
    (needs_in_order c.args.ordered.now.net c.args.watch.now c.args.ordered.now.sequence (reads_in c.in_ok-rows.rows) (needs_in c.in_ok-rows.rows) c.in_ok-rows.ensures.reads c.in_ok-rows.ensures.needed c.requires.order)

pub parts_of-requires-clause-within : goal.parts_of-requires-clause-within
parts_of-requires-clause-within c =
    subst (λ s. All (λ x. x < length c.as_slice-3.result.now) s) (sym c.as_slice-sequence.ensures)
    (sequence_within c.args.ordered.now.net c.args.ordered.now.sequence _ c.requires.order
    (ap length c.as_slice-3.ensures.value ∙ (c.in_ok-holding.ensures.leaves ∙ (reads_long c.in_ok-rows.rows ∙ c.in_ok-rows.ensures.leaves))))

pub overflow_cast-result : goal.overflow_cast-result
overflow_cast-result c = record { fits = omega (arith, c.len.ensures, c.in_ok-union.union.ok.0, c.in_ok-union.ensures.few, c.in_ok-rows.ensures.leaves, c.requires.few) }

pub returns : goal.returns
returns c =
    let rows = c.in_ok-rows.rows in
    let owners = c.in_ok-holding.holding.owners.items in
    let masks = c.in_ok-holding.holding.masks.items in
    let listed = subst (λ n. Lists (NeededBy (ConeAt (reads_in c.in_ok-rows.rows) (needs_in c.in_ok-rows.rows)) (range_with_len 0 n)) c.in_ok-union.union.items) (sym (needs_long rows)) c.in_ok-union.ensures.all in
    let counted : Counts (NeededBy (ConeAt (reads_in c.in_ok-rows.rows) (needs_in c.in_ok-rows.rows)) (range_with_len 0 (length (needs_in c.in_ok-rows.rows)))) c.len.result =
    record { numbers = c.in_ok-union.union.items; listed = listed; count = omega (arith, c.len.ensures, c.in_ok-union.union.ok.0) } in
    let parts = c.in_ok-parts.ensures ∙ (ap (λ s. parts_by s c.as_slice-3.result.now c.as_slice-sequence.result.now c.args.workers) c.as_slice-2.ensures.value
    ∙ (ap (λ s. parts_by owners s c.as_slice-sequence.result.now c.args.workers) c.as_slice-3.ensures.value ∙ ap (λ s. parts_by owners masks s c.args.workers) c.as_slice-sequence.ensures)) in
    is_cut c.args.ordered.now c.args.watch.now c.args.workers (record { parts = c.in_ok-parts.parts; needed = c.len.result }) (reads_in rows) (needs_in rows) c.in_ok-holding.holding
    c.in_ok-rows.ensures.reads c.in_ok-rows.ensures.needed c.requires.order c.in_ok-holding.ensures parts counted
