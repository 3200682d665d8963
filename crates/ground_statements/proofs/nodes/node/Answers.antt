use Rattle.std.proofs.Common.{◌∙◌, ap}
use Rattle.fir_types.specs.Leaves.{leaves}
use Rattle.ground_statements.specs.Nodes.{node_leaves}
use Rattle.ground_statements.proofs.NodeLeaves.{node_is}
use Rattle.ground_statements.proofs.nodes.node.Goals as goal

pub returns : goal.returns
returns c =
    node_is c.args.component.now.typ c.args.component.now.first c.args.sources c.in_ok-made.made
    (c.in_ok-made.ensures ∙ ap (λ ls. node_leaves c.args.component.now.first ls c.args.sources) (c.as_slice.ensures.value ∙ c.in_ok-listed.ensures ∙ ap leaves c.get.ensures))
