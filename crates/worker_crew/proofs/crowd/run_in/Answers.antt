use Rattle.std.proofs.Common.{rules, ◌≡◌, List, length, vec_items, arith}
use Rattle.crew_workers.specs.declared.worker.Worker.{Worker}
use Rattle.worker_crew.specs.Numbers.{same}
use Rattle.worker_crew.proofs.Numbers.{none_in}
use Rattle.worker_crew.proofs.crowd.run_in.Goals as goal

pub returns-clause-manned : goal.returns-clause-manned
returns-clause-manned g c = record {
  each = λ k lt.
      let W : Type 0 = Worker g.row.N.Denot g.N.Plan in
      let left : List W = vec_items c.settle.new.roster.mine in
      let empty : length left ≡ 0 = search rules in
      let all = c.requires.manned.each k lt in
      let begun = c.start_all.ensures.numbers k in
      let own = c.settle.ensures.numbers k in
      let none = none_in (λ (w : W). same k w.desk.duty.number) left empty in
      let joined = c.join_all.ensures.numbers k in
      let last = c.settle-2.ensures.numbers k in
      omega (arith, all, begun, own, none, joined, last);
}
