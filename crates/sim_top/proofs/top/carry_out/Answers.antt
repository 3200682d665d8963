use Rattle.sim_top.proofs.Replying.{reply_few, said_status, said_rose}
use Rattle.sim_top.proofs.top.carry_out.Goals as goal

pub say-requires : goal.say-requires
say-requires g c = reply_few _ _ (rw c.in-Say.is at c.requires.ready)

pub returns-in-Say-clause-carried : goal.returns-in-Say-clause-carried
returns-in-Say-clause-carried g c = rw c.in-Say.is c.say.ensures.said

pub returns-in-Say-clause-status : goal.returns-in-Say-clause-status
returns-in-Say-clause-status g c = rw c.in-Say.is (said_status _ _ _ _ _ c.say.ensures.said)

pub returns-in-Say-clause-rose : goal.returns-in-Say-clause-rose
returns-in-Say-clause-rose g c = λ five. said_rose _ _ _ (reply_few _ _ (rw c.in-Say.is at c.requires.ready)) c.say.ensures.rose five

pub run-requires-clause-runnable : goal.run-requires-clause-runnable
run-requires-clause-runnable g c κs within = rw (c.errand_of-errand.ensures.built, c.errand_of-errand.ensures.stimulus, c.errand_of-errand.ensures.watch, c.as_slice.ensures) (rw c.in-Run.is at c.requires.ready)

pub returns-in-Run-clause-carried : goal.returns-in-Run-clause-carried
returns-in-Run-clause-carried g c = rw c.in-Run.is (rw (c.errand_of-errand.ensures.built, c.errand_of-errand.ensures.stimulus) at c.run.ensures.ran)

pub returns-in-Run-clause-status : goal.returns-in-Run-clause-status
returns-in-Run-clause-status g c = rw c.in-Run.is c.run.ensures.ran.2.status

pub dump-requires-clause-dumpable : goal.dump-requires-clause-dumpable
dump-requires-clause-dumpable g c κs within =
    rw (c.errand_of-errand-in-Dump.ensures.built, c.errand_of-errand-in-Dump.ensures.stimulus, c.errand_of-errand-in-Dump.ensures.watch, c.as_slice-in-Dump.ensures) (rw c.in-Dump.is at c.requires.ready)

pub returns-in-Dump-clause-carried : goal.returns-in-Dump-clause-carried
returns-in-Dump-clause-carried g c =
    rw c.in-Dump.is (rw (c.errand_of-errand-in-Dump.ensures.built, c.errand_of-errand-in-Dump.ensures.stimulus, c.errand_of-errand-in-Dump.ensures.watch, c.as_slice-in-Dump.ensures) at c.dump.ensures.dumped)

pub returns-in-Dump-clause-status : goal.returns-in-Dump-clause-status
returns-in-Dump-clause-status g c = rw c.in-Dump.is c.dump.ensures.status

pub write_state-requires-clause-savable : goal.write_state-requires-clause-savable
write_state-requires-clause-savable g c κs within = rw (c.errand_of-errand-in-Save.ensures.built, c.errand_of-errand-in-Save.ensures.stimulus) (rw c.in-Save.is at c.requires.ready)

pub returns-in-Save-clause-carried : goal.returns-in-Save-clause-carried
returns-in-Save-clause-carried g c = rw c.in-Save.is (rw (c.errand_of-errand-in-Save.ensures.built, c.errand_of-errand-in-Save.ensures.stimulus) at c.write_state.ensures.saved)

pub returns-in-Save-clause-status : goal.returns-in-Save-clause-status
returns-in-Save-clause-status g c = rw c.in-Save.is c.write_state.ensures.status

pub go_on-requires-clause-resumable : goal.go_on-requires-clause-resumable
go_on-requires-clause-resumable g c κs within =
    rw (c.errand_of-errand-in-Resume.ensures.built, c.errand_of-errand-in-Resume.ensures.stimulus, c.errand_of-errand-in-Resume.ensures.watch, c.as_slice-in-Resume.ensures) (rw c.in-Resume.is at c.requires.ready)

pub returns-in-Resume-clause-carried : goal.returns-in-Resume-clause-carried
returns-in-Resume-clause-carried g c = rw c.in-Resume.is (rw (c.errand_of-errand-in-Resume.ensures.built, c.errand_of-errand-in-Resume.ensures.stimulus) at c.go_on.ensures.resumed)

pub returns-in-Resume-clause-status : goal.returns-in-Resume-clause-status
returns-in-Resume-clause-status g c = rw c.in-Resume.is c.go_on.ensures.status

pub log-requires-clause-loggable : goal.log-requires-clause-loggable
log-requires-clause-loggable g c κs within = rw (c.errand_of-errand-in-Log.ensures.built, c.errand_of-errand-in-Log.ensures.stimulus) (rw c.in-Log.is at c.requires.ready)

pub returns-in-Log-clause-carried : goal.returns-in-Log-clause-carried
returns-in-Log-clause-carried g c = rw c.in-Log.is (rw (c.errand_of-errand-in-Log.ensures.built, c.errand_of-errand-in-Log.ensures.stimulus) at c.log.ensures.logged)

pub returns-in-Log-clause-status : goal.returns-in-Log-clause-status
returns-in-Log-clause-status g c = rw c.in-Log.is c.log.ensures.status
