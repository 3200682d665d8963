use Rattle.std.proofs.Common.{◌≡◌, ◌^◌, ◌-◌, ◌*◌, min, arith}
use Rattle.ground_net.specs.Grounds.{element_count}
use Rattle.ground_net.specs.Numbers.{span_lengths}
use Rattle.ground_net.proofs.Listing.{count_more, count_all}
use Rattle.ground_net.proofs.numbers.count_of.Goals as goal

pub loop-span-init : goal.loop-span-init
loop-span-init c = record {
  same = let one : 1 * element_count (span_lengths c.args.spans.now) ≡ element_count (span_lengths c.args.spans.now) = omega arith in omega (arith, one);
  few = omega arith;
}

pub loop-span-preserved : goal.loop-span-preserved
loop-span-preserved c = record {
  same = count_more c.args.spans.now c.loop-span.span-index c.loop-span.count c.saturating_mul-count.result (min (element_count (span_lengths c.args.spans.now)) (2 ^ 128 - 1)) (2 ^ 128 - 1) (record { length = 0; stride = 0 })
      c.loop-span-test.true c.saturating_mul-count.ensures c.loop-span.invariant.same;
  few = omega (arith, c.saturating_mul-count.ensures);
}

pub returns : goal.returns
returns c =
    count_all c.args.spans.now c.loop-span.span-index c.loop-span.count (min (element_count (span_lengths c.args.spans.now)) (2 ^ 128 - 1)) (2 ^ 128 - 1) c.loop-span-test.false c.loop-span.invariant.few c.loop-span.invariant.same
