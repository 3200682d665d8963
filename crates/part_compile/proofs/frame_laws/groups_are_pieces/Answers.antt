use Rattle.part_compile.proofs.Telling.{groups_pieces}
use Rattle.part_compile.proofs.frame_laws.groups_are_pieces.Goals as goal

pub returns : goal.returns
returns c S earlier read counts groups old new found = groups_pieces S earlier read counts found groups old new
