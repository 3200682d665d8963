use Rattle.std.proofs.Common.{subst, sym}
use Rattle.phase_core.specs.Script.{IsScript}
use Rattle.crew_workers.proofs.Scripts.{script_is}
use Rattle.worker_crew.proofs.run.named_epoch.Goals as goal

pub open-requires-clause-script : goal.open-requires-clause-script
open-requires-clause-script g c = subst IsScript (sym c.requires.script) (script_is c.args.codes.now c.args.words.now c.args.rows.now c.requires.runs c.most_published-published.ensures.few)
