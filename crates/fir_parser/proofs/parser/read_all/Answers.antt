use Rattle.std.proofs.Common.{◌∙◌}
use Rattle.fir_parser.proofs.Texts.{stands_first, text_names, circuit_read}
use Rattle.fir_parser.proofs.parser.read_all.Goals as goal

pub read_text-requires-clause-inside : goal.read_text-requires-clause-inside
read_text-requires-clause-inside c = stands_first _ (rw (c.index_lines.ensures.bytes, c.new-reader.ensures.bytes) c.requires.short)
    (rw (c.index_lines.ensures.bytes, c.new-reader.ensures.bytes, c.index_lines.ensures.laid, c.new-reader.ensures.laid) c.requires.laid) (rw c.index_lines.ensures.at c.new-reader.ensures.at) c.in_ok-add_field_names.ensures.ok
    (rw c.index_lines.ensures.brackets c.new-reader.ensures.brackets) (rw (c.index_lines.ensures.laid, c.new-reader.ensures.laid) c.if-laid-ge-MOST_PARTS.false)

pub returns-clause-shallow : goal.returns-clause-shallow
returns-clause-shallow c = rw (c.index_lines.ensures.bytes, c.new-reader.ensures.bytes, c.index_lines.ensures.laid, c.new-reader.ensures.laid) at c.in_ok-text.ensures.shallow

pub stand-requires : goal.stand-requires
stand-requires c = text_names _ c.read_text.new.reader c.in_ok-text.text.1 c.in_ok-add_field_names.ensures.ok c.in_ok-text.ensures.ok c.in_ok-text.ensures.end

pub returns-clause-ok : goal.returns-clause-ok
returns-clause-ok c = rw (c.index_lines.ensures.bytes, c.new-reader.ensures.bytes, c.index_lines.ensures.laid, c.new-reader.ensures.laid) at (circuit_read _ c.read_text.new.reader c.in_ok-text.text.1.0 c.in_ok-text.text.1.1 c.in_ok-circuit.circuit
    (c.index_lines.ensures.at ∙ c.new-reader.ensures.at) c.in_ok-add_field_names.ensures.ok c.in_ok-text.ensures.ok c.in_ok-text.ensures.end c.in_ok-circuit.ensures)
