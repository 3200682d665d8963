use Rattle.circuit_texts.proofs.StimulusRows.{rows_split}
use Rattle.circuit_texts.proofs.stimulus_laws.rows_come_in_two_parts.Goals as goal

pub returns : goal.returns
returns c = rows_split
