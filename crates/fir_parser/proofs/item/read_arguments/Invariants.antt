use Rattle.std.proofs.Common.{◌≡◌, drop}
use Rattle.item_lines.specs.Formats.{shows}
use Rattle.fir_parser.specs.Taking.{StandsAt, blocks_at}
use Rattle.fir_parser.proofs.Loops.{Awaits_more}
use Rattle.fir_parser.proofs.item.read_arguments.Given as goal

abbrev pub invariant-loop-piece : goal.invariant-loop-piece
invariant-loop-piece l = StandsAt l.reader × (blocks_at l.reader ≡ blocks_at l.fn.reader) × Awaits_more l.fn.reader l.reader (shows l.pieces) l.arguments (shows (drop l.piece-index l.pieces))
