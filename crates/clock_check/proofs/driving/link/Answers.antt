use Rattle.std.proofs.Common.{arith}
use Rattle.std.proofs.lemmas.Grind.{common_steps}
use Rattle.clock_check.specs.Driving.{driver_of, region_at}
use Rattle.clock_check.proofs.Settings.{link_next, link_whole}
use Rattle.clock_check.proofs.driving.link.Goals as goal

pub loop-at-preserved : goal.loop-at-preserved
loop-at-preserved c = link_next c.args.side.1 (region_at c.args.side.0.now) c.args.parts.now c.args.sources.now c.loop-at.at c.index-parts-at.result c.index-sources-at.result
    (driver_of c.args.drivers.now.known.entries) (driver_of c.loop-at.drivers.known.entries) (driver_of c.set_part.new.drivers.known.entries)
    (grind (arith, common_steps)) (grind (arith, common_steps)) c.index-parts-at.is c.index-sources-at.is c.loop-at.invariant c.in_ok-set_part.ensures

pub returns : goal.returns
returns c = link_whole c.args.side.1 (region_at c.args.side.0.now) c.args.parts.now c.args.sources.now c.loop-at.at c.min-count.result (driver_of c.args.drivers.now.known.entries)
    (driver_of c.loop-at.drivers.known.entries) (grind (arith, common_steps)) (grind (arith, common_steps)) c.loop-at.invariant
