use Rattle.std.proofs.Common.{subst, sym, ℕ, ◌<◌, length, get_or, List}
use Rattle.crew_workers.specs.declared.worker.Worker.{Worker}
use Rattle.worker_crew.specs.Crew.{Fresh}
use Rattle.worker_crew.proofs.Crews.{each_push}
use Rattle.worker_crew.proofs.crowd.keep.Goals as goal

pub returns-clause-mine : goal.returns-clause-mine
returns-clause-mine g c =
    let P : Worker g.row.N.Denot g.N.Plan → Type 0 = Fresh c.args.shared.now in
    let E : List (Worker g.row.N.Denot g.N.Plan) → Type 0 = λ l. (k : ℕ) (d : Worker g.row.N.Denot g.N.Plan) → k < length l → P (get_or l k d) in
    subst E (sym c.push_reserved.ensures.items) (each_push P _ c.args.worker c.requires.mine c.requires.fresh)
