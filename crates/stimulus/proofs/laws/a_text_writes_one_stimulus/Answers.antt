use Rattle.stimulus.proofs.Once.{stimulus_once}
use Rattle.stimulus.proofs.laws.a_text_writes_one_stimulus.Goals as goal

pub returns : goal.returns
returns c = stimulus_once
