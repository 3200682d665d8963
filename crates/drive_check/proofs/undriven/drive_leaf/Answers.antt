use Rattle.std.proofs.Common.{rules}
use Rattle.drive_check.proofs.Blocks.{on_ok}
use Rattle.drive_check.proofs.Driving.{drives_leaf}
use Rattle.drive_check.proofs.undriven.drive_leaf.Goals as goal

pub returns : goal.returns
returns c = on_ok c.insert.result
    (λ h. drives_leaf c.args.spot.now c.args.flip c.args.part.now c.in_ok-key.key c.args.certain.now.keys.keys c.insert.new.self.keys.keys (search rules) (search rules) (search rules) h)
    c.insert.ensures
