use Rattle.std.proofs.Common.{◌+◌, ◌<◌, ◌++◌, ◌∷◌, [], ℕ, length, take, slice_index, refl, sym, subst, ap, ◌∙◌, arith}
use Rattle.std.specs.List.{All, AllZip, Contains}
use Rattle.std.proofs.lemmas.List.{take_more}
use Rattle.std.proofs.lemmas.List.Elements.{Contains-get_or}
use Rattle.cone_cutter.proofs.Lists.{stands}
use Rattle.cone_cutter.proofs.KeyPlaces.{place_from}
use Rattle.cut_refine.specs.declared.refined.Move.{Move}
use Rattle.cut_refine.specs.Refining.{IsRow}
use Rattle.cut_refine.specs.Standing.{cone_of}
use Rattle.cut_refine.proofs.Bounds.{cost_small, cone_small, places_few}
use Rattle.cut_refine.proofs.Sets.{zip_push}
use Rattle.cut_refine.proofs.Whole.{BestOf, row_of, row_small}
use Rattle.cut_refine.proofs.look.table_of.Goals as goal

pub walk-requires-clause-sink : goal.walk-requires-clause-sink
walk-requires-clause-sink c =
    let owners = c.args.standing.now.owners.items in
    let part = c.args.full.now.part in
    let is = c.as_slice-sinks.ensures.value ∙ c.requires.full.sinks in
    let sink = slice_index c.as_slice-sinks.result.now c.loop-sink.sink-index in
    let there = subst (λ s. Contains s (slice_index c.as_slice-sinks.result.now c.loop-sink.sink-index)) is (stands c.as_slice-sinks.result.now sink c.loop-sink.sink-index c.loop-sink-test.true refl) in
    omega (arith, (place_from owners part sink there).0, c.requires.stands.long)

pub walk-requires-clause-room : goal.walk-requires-clause-room
walk-requires-clause-room c =
    let is = c.as_slice-sinks.ensures.value ∙ c.requires.full.sinks in
    omega (arith, c.loop-sink.invariant.turn, c.loop-sink-test.true, ap length is, places_few c.args.standing.now.owners.items c.args.full.now.part, c.requires.stands.long, c.requires.rows.few_sinks)

pub target_of-target-requires-clause-masks : goal.target_of-target-requires-clause-masks
target_of-target-requires-clause-masks c =
    let walked = c.in_ok-walk.ensures in
    subst (All (λ x. x < length c.args.standing.now.masks.items)) (sym c.as_slice-cone.ensures.value)
    (λ k d lt. omega (arith, walked.below _ (Contains-get_or c.walk.new.self.found.items k d lt), c.requires.stands.is.masks_long))

pub target_of-target-requires-clause-counts : goal.target_of-target-requires-clause-counts
target_of-target-requires-clause-counts c =
    let walked = c.in_ok-walk.ensures in
    subst (All (λ x. x < length c.args.full.now.counts.items)) (sym c.as_slice-cone.ensures.value)
    (λ k d lt. omega (arith, walked.below _ (Contains-get_or c.walk.new.self.found.items k d lt), c.requires.full.counts.long))

pub target_of-target-requires-clause-fits : goal.target_of-target-requires-clause-fits
target_of-target-requires-clause-fits c = λ p lt.
    let walked = c.in_ok-walk.ensures in
    let rows = c.args.rows.now in
    let cost = cost_small rows c.requires.rows c.args.standing.now.owners.items p _ (c.requires.stands.is.counts p lt) in
    let size = cone_small rows _ c.walk.new.self.found.items walked.listed walked.below in
    omega (arith, cost, size, ap length c.as_slice-cone.ensures.value, c.requires.rows.few)

pub overflow_cast-target-in-loop-sink : goal.overflow_cast-target-in-loop-sink
overflow_cast-target-in-loop-sink c =
    let standing = c.args.standing.now in
    let full = c.args.full.now in
    let is = c.as_slice-sinks.ensures.value ∙ c.requires.full.sinks in
    let sink = slice_index c.as_slice-sinks.result.now c.loop-sink.sink-index in
    let there = subst (λ s. Contains s (slice_index c.as_slice-sinks.result.now c.loop-sink.sink-index)) is (stands c.as_slice-sinks.result.now sink c.loop-sink.sink-index c.loop-sink-test.true refl) in
    let walked = c.in_ok-walk.ensures in
    let target = subst (λ s. BestOf c.args.standing.now c.args.full.now s c.target_of-target.result) c.as_slice-cone.ensures.value c.target_of-target.ensures in
    record { fits = row_small c.args.rows.now standing full c.requires.rows c.requires.stands c.requires.full sink there c.walk.new.self.found.items walked.listed walked.below c.target_of-target.result target }

pub loop-sink-preserved : goal.loop-sink-preserved
loop-sink-preserved c =
    let inv = c.loop-sink.invariant in
    let standing = c.args.standing.now in
    let full = c.args.full.now in
    let sinks = c.as_slice-sinks.result.now in
    let i = c.loop-sink.sink-index in
    let R : ℕ → Move → Type 0 = IsRow (cone_of c.args.rows.now) (length c.args.standing.now.costs.items) c.args.standing.now.owners.items in
    let is = c.as_slice-sinks.ensures.value ∙ c.requires.full.sinks in
    let sink = slice_index c.as_slice-sinks.result.now c.loop-sink.sink-index in
    let there = subst (λ s. Contains s (slice_index c.as_slice-sinks.result.now c.loop-sink.sink-index)) is (stands sinks sink i c.loop-sink-test.true refl) in
    let walked = c.in_ok-walk.ensures in
    let target = subst (λ s. BestOf c.args.standing.now c.args.full.now s c.target_of-target.result) c.as_slice-cone.ensures.value c.target_of-target.ensures in
    let row = row_of c.args.rows.now standing full c.requires.rows c.requires.stands c.requires.full sink there c.walk.new.self.found.items walked.listed walked.below c.target_of-target.result target in
    record {
      rows = subst (λ t. AllZip (IsRow (cone_of c.args.rows.now) (length c.args.standing.now.costs.items) c.args.standing.now.owners.items) (take (c.loop-sink.sink-index + 1) c.as_slice-sinks.result.now) t) (sym c.in_ok-push.ensures.ok)
          (subst (λ s. AllZip (IsRow (cone_of c.args.rows.now) (length c.args.standing.now.costs.items) c.args.standing.now.owners.items) s (c.loop-sink.table ++ (record { sink = slice_index c.as_slice-sinks.result.now c.loop-sink.sink-index; target = c.target_of-target.result.part; greatest = c.target_of-target.result.greatest }) ∷ [])) (sym (take_more sinks i 0 c.loop-sink-test.true))
          (zip_push R (take i sinks) c.loop-sink.table sink (record { sink = slice_index c.as_slice-sinks.result.now c.loop-sink.sink-index; target = c.target_of-target.result.part; greatest = c.target_of-target.result.greatest }) inv.rows row));
      room = c.target_of-target.auto.shared ∙ inv.room;
      ready = walked.ready;
      turn = omega (arith, walked.turn, inv.turn);
    }
