use Rattle.circuit_texts.proofs.Formed.{zero_rows}
use Rattle.circuit_texts.proofs.stimulus_laws.rows_begin_with_zeros.Goals as goal

pub returns : goal.returns
returns c = zero_rows
