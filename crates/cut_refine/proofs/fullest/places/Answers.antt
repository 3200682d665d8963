use Rattle.std.proofs.Common.{◌≡◌, ◌==◌, true, false, cond, [], ◌∷◌, ◌++◌, slice_index, sym, ap, ◌∙◌, eq-eqb}
use Rattle.std.specs.List.{filter, range_with_len}
use Rattle.std.proofs.lemmas.List.{append-nil}
use Rattle.cone_cutter.proofs.KeyPlaces.{filter_range_more, eqb_not}
use Rattle.cut_refine.proofs.fullest.places.Goals as goal
use Rattle.cut_refine.proofs.fullest.places.Goals.{then-owner-part+in_ok-push, else-owner-part}

pub loop-sink-preserved : goal.loop-sink-preserved
loop-sink-preserved c =
    let owners = c.args.owners.now in
    let n = c.loop-sink.sink in
    let more = filter_range_more (λ k. slice_index c.args.owners.now k == c.args.part) n in
    elim c.if-owner-part.branch [
      | then-owner-part+in_ok-push w ↦
          let it : (slice_index c.args.owners.now c.loop-sink.sink == c.args.part) ≡ true = eq-eqb _ _ w.if-owner-part.true in
          ap (λ v. v.items) w.places-is ∙ (w.in_ok-push.ensures.items ∙ (ap (λ l. l ++ n ∷ []) c.loop-sink.invariant
          ∙ sym (more ∙ ap (λ b. filter (λ k. slice_index c.args.owners.now k == c.args.part) (range_with_len 0 c.loop-sink.sink) ++ cond b (c.loop-sink.sink ∷ []) []) it)))
      | else-owner-part w ↦
          let other : (slice_index c.args.owners.now c.loop-sink.sink == c.args.part) ≡ false = eqb_not _ _ w.if-owner-part.false in
          ap (λ v. v.items) w.places-is ∙ (c.loop-sink.invariant
          ∙ sym (more ∙ (ap (λ b. filter (λ k. slice_index c.args.owners.now k == c.args.part) (range_with_len 0 c.loop-sink.sink) ++ cond b (c.loop-sink.sink ∷ []) []) other ∙ append-nil _)))
    ]
