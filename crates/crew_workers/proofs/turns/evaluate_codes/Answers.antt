use Rattle.std.proofs.Common.{◌∙◌, length, ◌<◌, ◌≤◌, arith, subst, sym, get_or, vec_capacity}
use Rattle.flat_code.specs.declared.code.Code.{Code}
use Rattle.flat_code.specs.Codes.{most_publications}
use Rattle.crew_workers.proofs.Rows.{roomy_next, evaluated_next}
use Rattle.crew_workers.proofs.turns.evaluate_codes.Goals as goal

pub evaluate_code-requires-clause-publications : goal.evaluate_code-requires-clause-publications
evaluate_code-requires-clause-publications g c =
    subst (λ (v : Code). most_publications v ≤ vec_capacity (get_or c.loop-k.effects c.loop-k.k c.index-effects-k.result).publications) (sym c.index-codes-k.is)
    (c.loop-k.invariant.room.publications c.loop-k.k c.index-codes-k.result c.index-effects-k.result c.loop-k-test.true)

pub loop-k-preserved : goal.loop-k-preserved
loop-k-preserved g c = let e = c.evaluate_code.ensures in let r = c.loop-k.invariant.room in let m = r.many in let test = c.loop-k-test.true in
    let inside : c.loop-k.k < length c.loop-k.effects = omega (arith, m, test) in record {
      room = roomy_next _ _ _ c.index-codes-k.result _ r test c.index-codes-k.is e.publications_room e.outputs_room;
      effects = evaluated_next _ _ _ _ _ c.index-codes-k.result _ c.loop-k.invariant.effects test inside c.index-codes-k.is e.publications e.outputs;
      frame = e.frame ∙ c.loop-k.invariant.frame;
    }
