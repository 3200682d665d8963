use Rattle.depth_laws.proofs.Exactly.{never_empty}
use Rattle.depth_laws.proofs.laws.laid_lists_have_no_empty_block.Goals as goal

pub returns : goal.returns
returns c = never_empty
