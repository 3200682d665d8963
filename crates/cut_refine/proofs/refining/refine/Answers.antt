use Rattle.std.proofs.Common.{◌≡◌, ◌<◌, length, map, sym, subst, ap, ◌∙◌, arith}
use Rattle.std.specs.List.{All}
use Rattle.std.proofs.lemmas.List.{length-map}
use Rattle.std.proofs.lemmas.List.Elements.{Contains-get_or}
use Rattle.std.proofs.lemmas.Option.{slice_get-get_or}
use Rattle.ground_net.specs.declared.net.CutPart.{CutPart}
use Rattle.cone_cutter.specs.Rows.{reads_in, needs_in}
use Rattle.cone_cutter.specs.Loads.{parts_by}
use Rattle.cone_cutter.proofs.Assembly.{sequence_within}
use Rattle.cone_cutter.proofs.Wide.{reads_long}
use Rattle.cut_refine.specs.Standing.{cone_of, AreApart, AreParted, IsStanding}
use Rattle.cut_refine.proofs.Starting.{sinks_few, needs_few, parts_apart, start_owners, start_stands}
use Rattle.cut_refine.proofs.Whole.{leaves_long, sinks_long, rows_are, rows_sized, falls, way_on, is_refined}
use Rattle.cut_refine.proofs.refining.refine.Goals as goal

pub of_parts-requires-clause-sinks : goal.of_parts-requires-clause-sinks
of_parts-requires-clause-sinks c =
    let ordered = c.args.ordered.now in
    let watch = c.args.watch.now in
    let parts = c.args.start.now.parts in
    let long = sinks_long c.args.ordered.now.net watch c.in_ok-rows.rows c.in_ok-rows.ensures.reads c.in_ok-rows.ensures.needed in
    subst (All (λ part. All (λ k. k < c.len-sinks.result) part.sinks)) (sym c.as_slice.ensures)
    (λ k d lt i e less. omega (arith, sinks_few ordered watch (length c.args.start.now.parts) c.args.start.now c.requires.cut k _ (slice_get-get_or parts k d lt) _ (Contains-get_or _ i e less), long, c.len-sinks.ensures, c.in_ok-rows.rows.needed.ok.0))

pub of_parts-requires-clause-assignments : goal.of_parts-requires-clause-assignments
of_parts-requires-clause-assignments c =
    let ordered = c.args.ordered.now in
    let watch = c.args.watch.now in
    let parts = c.args.start.now.parts in
    let long = leaves_long c.args.ordered.now.net watch c.in_ok-rows.rows c.in_ok-rows.ensures.reads c.in_ok-rows.ensures.needed in
    subst (All (λ part. All (λ x. x < c.in_ok-rows.rows.leaves) part.assignments)) (sym c.as_slice.ensures)
    (λ k d lt i e less. omega (arith, needs_few ordered watch (length c.args.start.now.parts) c.args.start.now c.requires.cut k _ (slice_get-get_or parts k d lt) _ (Contains-get_or _ i e less), long))

pub of_parts-requires-clause-apart : goal.of_parts-requires-clause-apart
of_parts-requires-clause-apart c = subst AreApart (sym c.as_slice.ensures) (parts_apart c.args.ordered.now c.args.watch.now (length c.args.start.now.parts) c.args.start.now c.requires.cut)

pub new-requires-2-clause-rows : goal.new-requires-2-clause-rows
new-requires-2-clause-rows c = rows_are c.args.ordered.now.net c.args.watch.now c.in_ok-rows.rows c.in_ok-rows.ensures.reads c.in_ok-rows.ensures.needed c.in_ok-rows.ensures.rows c.requires.few c.requires.few_sinks

pub new-requires-2-clause-stands : goal.new-requires-2-clause-stands
new-requires-2-clause-stands c =
    let rows = c.in_ok-rows.rows in
    let net = c.args.ordered.now.net in
    let standing = c.in_ok-standing.standing in
    let owners = c.in_ok-standing.standing.owners.items in
    let masks = c.in_ok-standing.standing.masks.items in
    let costs = c.in_ok-standing.standing.costs.items in
    let are : c.in_ok-standing.standing.costs.items ≡ map (λ (part : CutPart). length part.assignments) c.args.start.now.parts = c.in_ok-standing.ensures.costs ∙ ap (map (λ (part : CutPart). length part.assignments)) c.as_slice.ensures in
    let count : length c.in_ok-standing.standing.costs.items ≡ length c.args.start.now.parts = ap length are ∙ length-map c.args.start.now.parts (λ (part : CutPart). length part.assignments) in
    let long : length c.in_ok-standing.standing.owners.items ≡ length c.in_ok-rows.rows.needed.items = omega (arith, c.in_ok-standing.ensures.owners, c.len-sinks.ensures, c.in_ok-rows.rows.needed.ok.0) in
    let leaves : length c.in_ok-standing.standing.masks.items ≡ length (reads_in c.in_ok-rows.rows) = omega (arith, c.in_ok-standing.ensures.masks, reads_long c.in_ok-rows.rows) in
    let parted = subst (λ ps. AreParted (length ps) ps c.in_ok-standing.standing.owners.items c.in_ok-standing.standing.masks.items) c.as_slice.ensures c.in_ok-standing.ensures.parted in
    record {
      long = long;
      some = omega (arith, count, c.requires.some);
      few = omega (arith, count, c.requires.most);
      is = subst (λ n. IsStanding (cone_of c.in_ok-rows.rows) c.in_ok-rows.rows.leaves n c.in_ok-standing.standing.owners.items c.in_ok-standing.standing.masks.items c.in_ok-standing.standing.costs.items) (sym count)
          (subst (λ m. IsStanding (cone_of c.in_ok-rows.rows) m (length c.args.start.now.parts) c.in_ok-standing.standing.owners.items c.in_ok-standing.standing.masks.items c.in_ok-standing.standing.costs.items) (reads_long rows)
          (start_stands c.args.ordered.now c.args.watch.now (length c.args.start.now.parts) c.args.start.now c.requires.cut owners masks parted (long ∙ sinks_long net c.args.watch.now rows c.in_ok-rows.ensures.reads c.in_ok-rows.ensures.needed)
          (reads_in rows) (needs_in rows) c.in_ok-rows.ensures.reads c.in_ok-rows.ensures.needed costs leaves are));
    }

pub new-requires-2-clause-sized : goal.new-requires-2-clause-sized
new-requires-2-clause-sized c = rows_sized c.args.ordered.now.net c.args.watch.now c.in_ok-rows.rows c.in_ok-rows.ensures.reads c.in_ok-rows.ensures.needed c.args.ordered.now.sequence (length c.args.start.now.parts) c.args.start.now c.requires.cut

pub refining-init : goal.refining-init
refining-init c =
    let rows = c.in_ok-rows.rows in
    let net = c.args.ordered.now.net in
    let owners = c.in_ok-standing.standing.owners.items in
    let masks = c.in_ok-standing.standing.masks.items in
    let costs = c.in_ok-standing.standing.costs.items in
    let are : c.in_ok-standing.standing.costs.items ≡ map (λ (part : CutPart). length part.assignments) c.args.start.now.parts = c.in_ok-standing.ensures.costs ∙ ap (map (λ (part : CutPart). length part.assignments)) c.as_slice.ensures in
    let count : length c.in_ok-standing.standing.costs.items ≡ length c.args.start.now.parts = ap length are ∙ length-map c.args.start.now.parts (λ (part : CutPart). length part.assignments) in
    let long : length c.in_ok-standing.standing.owners.items ≡ length c.in_ok-rows.rows.needed.items = omega (arith, c.in_ok-standing.ensures.owners, c.len-sinks.ensures, c.in_ok-rows.rows.needed.ok.0) in
    let leaves : length c.in_ok-standing.standing.masks.items ≡ length (reads_in c.in_ok-rows.rows) = omega (arith, c.in_ok-standing.ensures.masks, reads_long c.in_ok-rows.rows) in
    let parted = subst (λ ps. AreParted (length ps) ps c.in_ok-standing.standing.owners.items c.in_ok-standing.standing.masks.items) c.as_slice.ensures c.in_ok-standing.ensures.parted in
    let all = long ∙ sinks_long net c.args.watch.now rows c.in_ok-rows.ensures.reads c.in_ok-rows.ensures.needed in
    record {
      stands = record {
        long = long;
        some = omega (arith, count, c.requires.some);
        few = omega (arith, count, c.requires.most);
        is = subst (λ n. IsStanding (cone_of c.in_ok-rows.rows) c.in_ok-rows.rows.leaves n c.in_ok-standing.standing.owners.items c.in_ok-standing.standing.masks.items c.in_ok-standing.standing.costs.items) (sym count)
            (subst (λ m. IsStanding (cone_of c.in_ok-rows.rows) m (length c.args.start.now.parts) c.in_ok-standing.standing.owners.items c.in_ok-standing.standing.masks.items c.in_ok-standing.standing.costs.items) (reads_long rows)
            (start_stands c.args.ordered.now c.args.watch.now (length c.args.start.now.parts) c.args.start.now c.requires.cut owners masks parted all
            (reads_in rows) (needs_in rows) c.in_ok-rows.ensures.reads c.in_ok-rows.ensures.needed costs leaves are));
      };
      count = count;
      look = c.in_ok-look.ensures;
      way = record {
        first = owners;
        firsts = start_owners c.args.ordered.now c.args.watch.now (length c.args.start.now.parts) c.args.start.now c.requires.cut owners masks parted all;
        refines = λ last least r. r;
      };
    }

pub make-requires-clause-rows : goal.make-requires-clause-rows
make-requires-clause-rows c = rows_are c.args.ordered.now.net c.args.watch.now c.in_ok-rows.rows c.in_ok-rows.ensures.reads c.in_ok-rows.ensures.needed c.in_ok-rows.ensures.rows c.requires.few c.requires.few_sinks

pub new-requires-in-refining-clause-rows : goal.new-requires-in-refining-clause-rows
new-requires-in-refining-clause-rows c = rows_are c.args.ordered.now.net c.args.watch.now c.in_ok-rows.rows c.in_ok-rows.ensures.reads c.in_ok-rows.ensures.needed c.in_ok-rows.ensures.rows c.requires.few c.requires.few_sinks

pub new-requires-in-refining-clause-sized : goal.new-requires-in-refining-clause-sized
new-requires-in-refining-clause-sized c = rows_sized c.args.ordered.now.net c.args.watch.now c.in_ok-rows.rows c.in_ok-rows.ensures.reads c.in_ok-rows.ensures.needed c.args.ordered.now.sequence (length c.args.start.now.parts) c.args.start.now c.requires.cut

pub refining-smaller : goal.refining-smaller
refining-smaller c =
    let made = c.in_ok-make.ensures in
    falls c.in_ok-rows.rows 0 c.args.start.now.parts c.refining.standing c.make.new.self c.refining.look c.in_ok-look-2.look c.refining.invariant.look c.refining-test.true made.owners made.count c.refining.invariant.count c.in_ok-look-2.ensures

pub refining-preserved : goal.refining-preserved
refining-preserved c =
    let made = c.in_ok-make.ensures in
    let inv = c.refining.invariant in
    record {
      stands = made.stands;
      count = made.count ∙ inv.count;
      look = c.in_ok-look-2.ensures;
      way = way_on c.in_ok-rows.rows _ c.args.start.now.parts c.refining.standing c.make.new.self c.refining.look c.in_ok-look-2.look inv.look c.refining-test.true made.owners made.count inv.count inv.way;
    }

pub parts_of-requires-clause-within : goal.parts_of-requires-clause-within
parts_of-requires-clause-within c =
    let net = c.args.ordered.now.net in
    let masks = c.refining.invariant.stands.is.masks_long in
    let long = leaves_long net c.args.watch.now c.in_ok-rows.rows c.in_ok-rows.ensures.reads c.in_ok-rows.ensures.needed in
    subst (λ s. All (λ x. x < length c.as_slice-3.result.now) s) (sym c.as_slice-4.ensures)
    (sequence_within net c.args.ordered.now.sequence _ c.requires.order (ap length c.as_slice-3.ensures.value ∙ (masks ∙ long)))

pub returns : goal.returns
returns c =
    let inv = c.refining.invariant in
    let owners = c.refining.standing.owners.items in
    let masks = c.refining.standing.masks.items in
    let are = c.in_ok-parts.ensures ∙ (ap (λ o. parts_by o c.as_slice-3.result.now c.as_slice-4.result.now c.len.result) c.as_slice-2.ensures.value
    ∙ (ap (λ m. parts_by owners m c.as_slice-4.result.now c.len.result) c.as_slice-3.ensures.value
    ∙ (ap (λ s. parts_by owners masks s c.len.result) c.as_slice-4.ensures ∙ ap (parts_by owners masks c.args.ordered.now.sequence) c.len.ensures))) in
    is_refined c.args.ordered.now c.args.watch.now c.args.start.now c.requires.order c.in_ok-rows.rows c.in_ok-rows.ensures.reads c.in_ok-rows.ensures.needed c.refining.standing c.refining.look inv.stands inv.count inv.look
    c.refining-test.false inv.way c.in_ok-parts.parts are
