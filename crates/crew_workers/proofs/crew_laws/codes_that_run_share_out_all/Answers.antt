use Rattle.crew_workers.proofs.Asked.{asked_of}
use Rattle.crew_workers.proofs.crew_laws.codes_that_run_share_out_all.Goals as goal

pub returns : goal.returns
returns c = asked_of
