use Rattle.reset_resolution.proofs.Resolution.{made_tree}
use Rattle.reset_resolution.proofs.resolving.resolve_resets.Goals as goal

pub returns : goal.returns
returns c =
    made_tree c.args.circuit.now c.in_ok-tree.tree c.in_ok-feeds.feeds c.in_ok-marks.marks.keys.keys c.in_ok-feeds.ensures c.in_ok-marks.ensures c.in_ok-tree.ensures
