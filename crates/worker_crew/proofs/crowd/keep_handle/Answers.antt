use Rattle.std.proofs.Common.{◌≡◌, subst, sym, ℕ, ◌<◌, length, get_or, List}
use Rattle.std.specs.declared.thread.PromisedHandle.{PromisedHandle}
use Rattle.crew_workers.specs.declared.worker.Worker.{Worker}
use Rattle.worker_crew.specs.declared.crew.Lent.{Lent}
use Rattle.worker_crew.specs.Crew.{task_of, IsDuty}
use Rattle.worker_crew.proofs.Crews.{each_push}
use Rattle.worker_crew.proofs.crowd.keep_handle.Goals as goal

pub returns-clause-started : goal.returns-clause-started
returns-clause-started g c =
    let H : Type 0 = PromisedHandle (Worker g.row.N.Denot g.N.Plan) (Lent g.row.N.Denot g.N.Plan) in
    let P : H → Type 0 = λ h. (h.promise.table.value ≡ c.args.shared.now.table.now) × IsDuty (task_of c.args.shared.now) h.promise.duty.value in
    let E : List H → Type 0 = λ l. (k : ℕ) (d : H) → k < length l → P (get_or l k d) in
    subst E (sym c.push_reserved.ensures.items) (each_push P _ c.args.handle c.requires.started (c.requires.table, c.requires.duty))
