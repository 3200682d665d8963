use Rattle.fir_meaning.specs.Certain.{may_be}
use Rattle.drive_check.specs.Spots.{region_at}
use Rattle.drive_check.proofs.Driving.{parts_more}
use Rattle.drive_check.proofs.undriven.drive_spot.Goals as goal

pub loop-leaf-preserved : goal.loop-leaf-preserved
loop-leaf-preserved c = parts_more (may_be c.args.flip (region_at c.args.spot.now)) _ c.loop-leaf.leaf-index c.leaf-item.result c.args.certain.now.keys.keys c.loop-leaf.certain.keys.keys
    c.drive_leaf.new.certain.keys.keys c.loop-leaf-test.true c.leaf-item.is c.loop-leaf.invariant c.in_ok-drive_leaf.ensures
