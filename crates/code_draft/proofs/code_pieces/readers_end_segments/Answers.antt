use Rattle.code_draft.proofs.Reading.{segment_read}
use Rattle.code_draft.proofs.code_pieces.readers_end_segments.Goals as goal

pub returns : goal.returns
returns c = segment_read
