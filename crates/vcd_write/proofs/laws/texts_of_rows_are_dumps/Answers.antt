use Rattle.vcd_write.proofs.Parted.{told_text}
use Rattle.vcd_write.proofs.laws.texts_of_rows_are_dumps.Goals as goal

pub returns : goal.returns
returns c = λ top vars rows h. told_text top vars rows h
