use Rattle.crew_run.proofs.run.Run.limit.Goals as goal

pub returns-clause-run : goal.returns-clause-run
returns-clause-run c = λ ordered watched parts t is. record { of = is.of; net = is.net; order = is.order; split = is.split; some = is.some; few = is.few; codes_of = is.codes_of; at = is.at }
