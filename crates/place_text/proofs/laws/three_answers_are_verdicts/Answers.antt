use Rattle.place_text.proofs.Verdicts.{passes, refuses_by, wants_memory}
use Rattle.place_text.proofs.laws.three_answers_are_verdicts.Goals as goal

pub returns-clause-passes : goal.returns-clause-passes
returns-clause-passes g c = passes

pub returns-clause-refuses : goal.returns-clause-refuses
returns-clause-refuses g c = refuses_by g.met.F.Fault.one_each

pub returns-clause-memory : goal.returns-clause-memory
returns-clause-memory g c = wants_memory
