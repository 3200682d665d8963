use Rattle.vcd_write.proofs.Parted.{text_parts}
use Rattle.vcd_write.proofs.laws.texts_come_in_pieces.Goals as goal

pub returns : goal.returns
returns c = λ top vars rows h. text_parts vars top rows h
