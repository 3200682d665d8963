use Rattle.phase_core.proofs.Shapes.{tested}
use Rattle.phase_core.proofs.shape.is_script.Goals as goal

pub returns : goal.returns
returns c = tested c.args.script.now c.len.result c.len-2.result c.len-3.result c.has_owners-owners.result c.owns_rounds-parts.result c.len.ensures c.len-2.ensures c.len-3.ensures c.has_owners-owners.ensures c.owns_rounds-parts.ensures
