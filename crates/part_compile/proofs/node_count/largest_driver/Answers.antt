use Rattle.part_compile.proofs.Nodes.{most_counted}
use Rattle.part_compile.proofs.node_count.largest_driver.Goals as goal

pub returns : goal.returns
returns c =
    most_counted c.args.net.now c.args.watch.now c.args.part.now c.largest_assignment-assignments.result c.largest_sink.result c.max.result c.largest_assignment-assignments.ensures c.largest_sink.ensures c.max.ensures
