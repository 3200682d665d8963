use Rattle.sim_top.proofs.EmptyText.{empty_refused}
use Rattle.sim_top.proofs.example.empty_text_is_refused.Goals as goal

pub returns : goal.returns
returns c = empty_refused
