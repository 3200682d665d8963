use Rattle.std.proofs.Common.{◌≡◌, drop}
use Rattle.item_lines.specs.declared.format.After.TheVariants as asks
use Rattle.item_lines.specs.FormatReading.{pieces_from, behind}
use Rattle.item_lines.proofs.format.read_format.Given as goal

abbrev pub invariant-loop-byte : goal.invariant-loop-byte
invariant-loop-byte l = pieces_from asks.Byte l.bytes ≡ behind l.held.pieces.items l.held.text.items (pieces_from l.after (drop l.byte-index l.bytes))
