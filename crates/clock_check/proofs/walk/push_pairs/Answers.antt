use Rattle.std.proofs.Common.{◌∙◌, ◌++◌, ap, map, zip, arith}
use Rattle.std.specs.List.{flat_map}
use Rattle.std.proofs.lemmas.Grind.{common_steps}
use Rattle.drive_check.specs.Keys.{leaf_of_key}
use Rattle.clock_check.specs.Edges.{edges_of, node_edge}
use Rattle.clock_check.proofs.Settings.{zip_get, zip_whole}
use Rattle.clock_check.proofs.Walking.{flat_more}
use Rattle.clock_check.proofs.walk.push_pairs.Goals as goal

pub loop-at-preserved : goal.loop-at-preserved
loop-at-preserved c =
    let parts = c.args.parts.now in
    let keys = c.args.sources.now in
    let both = zip_get parts keys c.loop-at.at c.index-parts-at.result c.index-sources-at.result (grind (arith, common_steps)) (grind (arith, common_steps))
    c.index-parts-at.is c.index-sources-at.is in
    flat_more (node_edge c.args.name.id) (zip parts (map leaf_of_key keys)) c.loop-at.at (c.index-parts-at.result, leaf_of_key c.index-sources-at.result)
    (edges_of c.args.links.now.items) (edges_of c.loop-at.links.items) (edges_of c.push_beside.new.links.items) both.0 both.1 c.loop-at.invariant c.in_ok-push_beside.ensures

pub returns : goal.returns
returns c =
    c.loop-at.invariant
    ∙ ap (λ l. edges_of c.args.links.now.items ++ flat_map (node_edge c.args.name.id) l)
    (zip_whole c.args.parts.now c.args.sources.now c.loop-at.at c.min-count.result (grind (arith, common_steps)) (grind (arith, common_steps)))
