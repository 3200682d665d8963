use Rattle.drive_check.specs.Keys.{leaf_of_key}
use Rattle.drive_check.proofs.Blocks.{on_ok}
use Rattle.clock_check.specs.Joins.{flat_by}
use Rattle.clock_check.proofs.Linked.{link_added}
use Rattle.clock_check.proofs.joining.add_link.Goals as goal

pub returns : goal.returns
returns c =
    on_ok c.add.result
    (λ h. link_added c.args.sinks.now.sinks.entries c.add.new.self.sinks.entries c.in_ok-source.source c.in_ok-sink.sink (flat_by c.args.targets.now.entries c.args.path.now (leaf_of_key c.args.link.now.sink))
    (flat_by c.args.targets.now.entries c.args.path.now (leaf_of_key c.args.link.now.source)) c.in_ok-source.ensures c.in_ok-sink.ensures h)
    c.add.ensures
