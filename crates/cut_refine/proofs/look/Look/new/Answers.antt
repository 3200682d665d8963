use Rattle.std.proofs.Common.{length, sym, subst, ◌∙◌, arith, ⊎_elim}
use Rattle.std.specs.List.{AllZip}
use Rattle.std.proofs.lemmas.Bool.{cases_lt}
use Rattle.std.proofs.lemmas.List.{get_or_read}
use Rattle.cone_cutter.specs.Rows.{places_of}
use Rattle.cut_refine.specs.Refining.{IsRow}
use Rattle.cut_refine.specs.Standing.{cone_of, IsChosen}
use Rattle.cut_refine.proofs.Bounds.{cost_small}
use Rattle.cut_refine.proofs.Whole.{look_at_one, look_at_several}
use Rattle.cut_refine.proofs.look.Look.new.Goals as goal
use Rattle.cut_refine.proofs.look.Look.new.Goals.{then-len-eq1, else-len-eq1+in_ok-table}

pub overflow_cast-greatest : goal.overflow_cast-greatest
overflow_cast-greatest c =
    let full = c.in_ok-full.ensures in
    let costs = c.args.standing.now.costs.items in
    let value = get_or_read costs _ _ full.part.within c.index.ensures 0 in
    let small = cost_small c.args.rows.now c.requires.rows c.args.standing.now.owners.items c.in_ok-full.full.part _ (c.requires.stands.is.counts c.in_ok-full.full.part full.part.within) in
    record { fits = omega (arith, value, small, c.requires.rows.few) }

pub returns : goal.returns
returns c =
    let full = c.in_ok-full.ensures in
    let costs = c.args.standing.now.costs.items in
    let value = get_or_read costs _ _ full.part.within c.index.ensures 0 in
    let chosen = subst (λ t. IsChosen t c.index.result.now c.best_of-best.result) c.as_slice.ensures c.best_of-best.ensures in
    elim c.if-len-eq1.branch [
      | then-len-eq1 w ↦ look_at_one c.args.rows.now c.args.standing.now _ c.requires.stands full (sym value) c.requires.sized chosen
          (omega (arith, w.if-len-eq1.true, c.len.ensures, c.args.standing.now.costs.ok.0)) (w.table-is ∙ w.new-table.ensures)
      | else-len-eq1+in_ok-table w ↦ look_at_several c.args.rows.now c.args.standing.now _ c.requires.stands full (sym value) c.requires.sized chosen
          (⊎_elim (λ lt. lt) (λ le. absurd (w.if-len-eq1.false (omega (arith, le, c.requires.stands.some, c.len.ensures, c.args.standing.now.costs.ok.0)))) (cases_lt 1 (length c.args.standing.now.costs.items)))
          (subst (AllZip (IsRow (cone_of c.args.rows.now) (length c.args.standing.now.costs.items) c.args.standing.now.owners.items) (places_of c.args.standing.now.owners.items c.in_ok-full.full.part)) (sym w.table-is) w.in_ok-table.ensures)
    ]
