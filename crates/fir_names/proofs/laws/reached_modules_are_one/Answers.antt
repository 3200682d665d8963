use Rattle.fir_names.proofs.Reached.{reached_once}
use Rattle.fir_names.proofs.laws.reached_modules_are_one.Goals as goal

pub returns : goal.returns
returns c = reached_once
