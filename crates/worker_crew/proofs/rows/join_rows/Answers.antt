use Rattle.std.proofs.Common.{◌+◌, ◌≤◌, length, sym, ap, ◌∙◌, subst, arith}
use Rattle.crew_workers.specs.Places.{HasPlaces}
use Rattle.crew_workers.proofs.Spreads.{length_push}
use Rattle.worker_crew.specs.Joins.{IsJoined, AreJoined}
use Rattle.worker_crew.proofs.Joining.{remain_next, joined_of, joined_push}
use Rattle.worker_crew.proofs.rows.join_rows.Goals as goal

pub loop-cycle-preserved : goal.loop-cycle-preserved
loop-cycle-preserved c =
    let codes = c.args.codes.now in let before = c.args.parts.now in let now = c.loop-cycle.parts in let n = c.loop-cycle.cycle in let row = c.in_ok-row.row in
    let i = c.loop-cycle.invariant in let e = c.in_ok-row.ensures in let many = i.parts.many in let parts = c.requires.parts in
    let all : length codes ≤ length now = omega (arith, many, parts) in
    record {
      many = ap length c.in_ok-push.ensures.ok ∙ (length_push c.loop-cycle.rows row ∙ ap (λ k. k + 1) i.many);
      parts = remain_next before now c.join_row.new.parts n (length codes) all e.parts i.parts;
      joined = subst (AreJoined codes before) (sym c.in_ok-push.ensures.ok)
          (joined_push codes before c.loop-cycle.rows row i.joined (subst (HasPlaces codes) (sym e.many) c.requires.places)
          (subst (λ k. IsJoined codes before k row (length codes)) (sym i.many) (joined_of codes before now n (length codes) row i.parts e.row)));
    }
