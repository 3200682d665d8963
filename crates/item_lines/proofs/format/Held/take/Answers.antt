use Rattle.item_lines.proofs.format.Held.take.Goals as goal

pub returns-in-Byte : goal.returns-in-Byte
returns-in-Byte c = rw c.in-Byte.is c.take_plain.ensures
