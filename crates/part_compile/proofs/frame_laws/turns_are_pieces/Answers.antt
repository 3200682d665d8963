use Rattle.part_compile.proofs.Turning.{turns_pieces}
use Rattle.part_compile.proofs.frame_laws.turns_are_pieces.Goals as goal

pub returns : goal.returns
returns c = turns_pieces
