use Rattle.part_compile.proofs.Building.{in_pieces}
use Rattle.part_compile.proofs.frame_laws.drafts_are_pieces.Goals as goal

pub returns : goal.returns
returns c = in_pieces
