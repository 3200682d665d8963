use Rattle.std.proofs.Common.{Some, ap, ◌∙◌}
use Rattle.memory_ports.proofs.Reading.{never_named, data_there, sound_data}
use Rattle.memory_ports.proofs.laws.leaves_show_what_ports_read.Goals as goal

pub returns-clause-read : goal.returns-clause-read
returns-clause-read c = λ flat sound m p k x memory port read r. sound_data flat sound m p k x memory port read r

pub returns-clause-none : goal.returns-clause-none
returns-clause-none c = λ flat x within h. data_there flat x within ∙ ap Some (never_named flat.memories x h)
