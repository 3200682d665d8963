use Rattle.std.proofs.Common.{◌<◌, ◌^◌, ◌-◌, ◌*◌, ◌/◌, ◌%◌, ◌+◌, drop, slice_get, arith, ap, sym, ◌∙◌}
use Rattle.std.proofs.Math.Nat.{mod-le}
use Rattle.ground_net.specs.Numbers.{listed}
use Rattle.ground_net.proofs.Listing.{next_place, place_behind, no_place, still_room}
use Rattle.ground_net.proofs.numbers.listed_at.Goals as goal

pub returns-then-count-eq0 : goal.returns-then-count-eq0
returns-then-count-eq0 c =
    let few : c.loop-at.left < 2 ^ 128 - 1 = omega arith in
    sym (sym c.loop-at.invariant.same ∙ no_place c.args.spans.now c.loop-at.at c.loop-at.number c.loop-at.left c.count_of-count.result (2 ^ 128 - 1) (record { length = 0; stride = 0 }) c.loop-at-test.true c.count_of-count.ensures few c.if-count-eq0.true)

pub returns-then-index-span : goal.returns-then-index-span
returns-then-index-span c =
    let few : c.loop-at.left < 2 ^ 128 - 1 = omega arith in
    let some : 0 < c.count_of-count.result = omega arith in
    sym (sym c.loop-at.invariant.same ∙ place_behind c.args.spans.now c.loop-at.at c.loop-at.number c.loop-at.left c.count_of-count.result (2 ^ 128 - 1) (record { length = 0; stride = 0 }) c.loop-at-test.true c.count_of-count.ensures few some c.if-index-span.true)

pub loop-at-preserved : goal.loop-at-preserved
loop-at-preserved c =
    let few : c.loop-at.left < 2 ^ 128 - 1 = omega arith in
    let some : 0 < c.count_of-count.result = omega arith in
    record {
      same = ap (λ y. slice_get (listed (drop (c.loop-at.at + 1) c.args.spans.now) (c.loop-at.number + c.loop-at.left / c.count_of-count.result * y)) (c.loop-at.left % c.count_of-count.result)) c.from.ensures
          ∙ sym (next_place c.args.spans.now c.loop-at.at c.loop-at.number c.loop-at.left c.count_of-count.result (2 ^ 128 - 1) (record { length = 0; stride = 0 }) c.loop-at-test.true c.count_of-count.ensures few some c.if-index-span.false)
          ∙ c.loop-at.invariant.same;
      room = let more = still_room c.loop-at.number c.loop-at.left c.count_of-count.result c.from.result some (omega arith) in omega (arith, more);
      few = let less = mod-le c.loop-at.left c.count_of-count.result in omega (arith, less);
    }
