use Rattle.circuit_texts.proofs.Formed.{first_formed, second_formed, row_values}
use Rattle.circuit_texts.proofs.stimulus_laws.parts_are_formed.Goals as goal

pub returns : goal.returns
returns c = record { first = first_formed; second = second_formed; values = row_values }
