use Rattle.std.proofs.Common.{subst, sym, ℕ, ◌<◌, length, get_or, List, ◌∙◌}
use Rattle.crew_workers.specs.declared.worker.Worker.{Worker}
use Rattle.worker_crew.specs.Crew.{Fresh, Done}
use Rattle.worker_crew.proofs.Crews.{each_push, answered_done, answered_fresh}
use Rattle.worker_crew.proofs.crowd.take_answer.Goals as goal

pub returns-then-passed-eq0-clause-mine : goal.returns-then-passed-eq0-clause-mine
returns-then-passed-eq0-clause-mine g c =
    let P : Worker g.row.N.Denot g.N.Plan → Type 0 = Fresh c.args.shared.now in
    let E : List (Worker g.row.N.Denot g.N.Plan) → Type 0 = λ l. (k : ℕ) (d : Worker g.row.N.Denot g.N.Plan) → k < length l → P (get_or l k d) in
    subst E (sym c.push_reserved.ensures.items)
    (each_push P _ c.args.worker c.requires.mine (record { at = answered_fresh _ _ _ c.requires.answered (sym c.passed.ensures ∙ c.if-passed-eq0.true); duty = c.requires.duty }))

pub returns-else-passed-eq0-clause-done : goal.returns-else-passed-eq0-clause-done
returns-else-passed-eq0-clause-done g c =
    let P : Worker g.row.N.Denot g.N.Plan → Type 0 = Done c.args.shared.now in
    let E : List (Worker g.row.N.Denot g.N.Plan) → Type 0 = λ l. (k : ℕ) (d : Worker g.row.N.Denot g.N.Plan) → k < length l → P (get_or l k d) in
    subst E (sym c.push_reserved-else-passed-eq0.ensures.items)
    (each_push P _ c.args.worker c.requires.done (record { at = answered_done _ _ _ c.requires.answered (λ z. c.if-passed-eq0.false (c.passed.ensures ∙ z)); duty = c.requires.duty }))
