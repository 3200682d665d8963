use Rattle.std.proofs.Common.{◌≡◌, ◌<◌, ◌∙◌, List, ℕ, length, subst, sym, ap, arith}
use Rattle.bit_words.specs.declared.value.Value.{Value}
use Rattle.crew_workers.specs.Spreads.{Placed}
use Rattle.crew_workers.specs.Places.{HasPlaces}
use Rattle.crew_workers.proofs.Rows.{own_apart, places_below, row_next}
use Rattle.crew_workers.proofs.turns.fill_row.Goals as goal

pub place-requires-clause-apart : goal.place-requires-clause-apart
place-requires-clause-apart c = own_apart c.args.codes.now c.requires.own c.loop-k.k c.index-codes-k.result c.loop-k-test.true c.index-codes-k.is _ c.positions.ensures

pub place-requires-clause-within : goal.place-requires-clause-within
place-requires-clause-within c = places_below c.args.codes.now (length c.loop-k.row) (subst (HasPlaces c.args.codes.now) (sym c.loop-k.invariant.many) c.requires.places)
    c.loop-k.k c.index-codes-k.result c.loop-k-test.true c.index-codes-k.is _ c.positions.ensures

pub loop-k-preserved : goal.loop-k-preserved
loop-k-preserved c =
    let test = c.loop-k-test.true in let m = c.requires.many in let inside : c.loop-k.k < length c.args.effects.now = omega (arith, test, m) in
    let values : Placed c.positions.result.now c.index-effects-k.result.outputs.items c.loop-k.row c.place.new.row (length c.positions.result.now) =
    subst (λ (l : List Value). Placed c.positions.result.now l c.loop-k.row c.place.new.row (length c.positions.result.now)) c.as_slice.ensures.value c.place.ensures in
    let placed = subst (λ (l : List ℕ). Placed l c.index-effects-k.result.outputs.items c.loop-k.row c.place.new.row (length l)) c.positions.ensures values in
    record {
      row = row_next c.args.codes.now c.requires.own _ _ _ _ c.index-codes-k.result c.index-effects-k.result c.loop-k.invariant.row test inside c.index-codes-k.is c.index-effects-k.is placed;
      many = placed.many ∙ c.loop-k.invariant.many;
    }
