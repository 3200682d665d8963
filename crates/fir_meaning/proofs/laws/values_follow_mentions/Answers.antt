use Rattle.fir_meaning.proofs.Tracking.{tracked, all_same, each_same}
use Rattle.fir_meaning.proofs.laws.values_follow_mentions.Goals as goal

pub returns-clause-whole : goal.returns-clause-whole
returns-clause-whole c = λ e types f g a. all_same (tracked e types f g) a

pub returns-clause-each : goal.returns-clause-each
returns-clause-each c = λ e types f g k m at a. each_same (tracked e types f g) k m at a
