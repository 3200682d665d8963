use Rattle.std.proofs.Common.{sym, ap, ◌∙◌}
use Rattle.plain_cycle.specs.Held.{held_sort}
use Rattle.plain_cycle.specs.Runs.{design_in}
use Rattle.plain_cycle.proofs.Views.{sort_is}
use Rattle.plain_cycle.proofs.asking.asked.Goals as goal

pub of_node-requires-clause-part : goal.of_node-requires-clause-part
of_node-requires-clause-part c =
    (c.requires.part.0, c.requires.part.1, sym (sort_is (design_in c.args.run.now) c.requires.part.0 c.args.part.now c.requires.part.1) ∙ ap held_sort c.in-Node.is)
