use Rattle.std.proofs.Common.{refl}
use Rattle.fir_tree.proofs.Wording.{power_plus, beyond_plus, beyond_begin, beyond_end}
use Rattle.fir_tree.proofs.name_sizes.index_bytes.Goals as goal

pub loop-init : goal.loop-init
loop-init c = record { power = refl; total = beyond_begin c.args.length c.saturating_mul-total.result c.saturating_mul-total.ensures }

pub loop-preserved : goal.loop-preserved
loop-preserved c =
    let p = power_plus c.loop.counter c.loop.power c.saturating_mul-power.result c.loop.invariant.power c.saturating_mul-power.ensures in
    record {
      power = p;
      total = beyond_plus c.loop.counter c.args.length c.saturating_mul-power.result c.loop.total c.saturating_sub.result c.saturating_add-total.result c.ranges.length.fits p
          c.loop.invariant.total c.saturating_sub.ensures c.saturating_add-total.ensures;
    }

pub returns : goal.returns
returns c = beyond_end c.loop.counter c.args.length c.loop.total c.ranges.length.fits c.loop-test.false c.loop.auto.counter-end c.loop.invariant.total
