use Rattle.std.proofs.Common.{rules, ◌≡◌, ◌∙◌, ◌+◌, get_or, sym, ap}
use Rattle.fir_types.specs.declared.index.FieldPlace.{FieldPlace}
use Rattle.fir_types.specs.Indexes.{place_in}
use Rattle.fir_types.proofs.Places.{places_more, sum_more}
use Rattle.fir_types.proofs.index.places_of.Goals as goal

pub loop-position-preserved : goal.loop-position-preserved
loop-position-preserved c =
    let place : FieldPlace = record { position = c.loop-position.position; before = c.loop-position.before } in
    let same : place ≡ place_in c.args.weights.now c.loop-position.position = ap (λ n. record { position = c.loop-position.position; before = n }) c.loop-position.invariant.before in
    record {
      places = places_more c.args.fields.now c.args.weights.now c.loop-position.position c.index-fields-position.result c.loop-position.places.entries c.insert_new.new.places.entries place
          c.loop-position-test.true c.loop-position.invariant.places same (search rules);
      before = c.in_ok-before.ensures ∙ sym (sum_more c.args.weights.now c.loop-position.position ∙ ap (λ n. n + get_or c.args.weights.now c.loop-position.position 0) (sym c.loop-position.invariant.before));
    }
