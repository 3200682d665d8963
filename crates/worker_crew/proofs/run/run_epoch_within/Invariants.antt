use Rattle.crew_workers.specs.Scripts.{script_of}
use Rattle.worker_crew.proofs.run.run_epoch_within.Given as goal

abbrev pub ghosts-named_epoch : goal.ghosts-named_epoch
ghosts-named_epoch g a = record { script = script_of a.codes.now a.words.now a.rows.now }
