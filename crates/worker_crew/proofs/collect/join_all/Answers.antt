use Rattle.std.proofs.Common.{rules, ◌≡◌, List, length, vec_items, arith}
use Rattle.std.specs.declared.thread.PromisedHandle.{PromisedHandle}
use Rattle.crew_workers.specs.declared.worker.Worker.{Worker}
use Rattle.worker_crew.specs.declared.crew.Lent.{Lent}
use Rattle.worker_crew.specs.Numbers.{same}
use Rattle.worker_crew.proofs.Numbers.{none_in}
use Rattle.worker_crew.proofs.collect.join_all.Goals as goal

pub returns-clause-numbers : goal.returns-clause-numbers
returns-clause-numbers g c = λ k.
    let H : Type 0 = PromisedHandle (Worker g.row.N.Denot g.N.Plan) (Lent g.row.N.Denot g.N.Plan) in
    let left : List H = vec_items c.loop-handle.started in
    let empty : length left ≡ 0 = search rules in
    let none = none_in (λ (h : H). same k h.promise.duty.value.number) left empty in
    let kept = c.loop-handle.invariant.numbers k in
    omega (arith, none, kept)
