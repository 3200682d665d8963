use Rattle.std.proofs.Common.{◌≡◌, ◌+◌, ℕ, List, [], length, get_or, subst, sym, ap, ◌∙◌, arith}
use Rattle.std.proofs.lemmas.List.{get_or_default}
use Rattle.bit_words.specs.declared.value.Value.{Value}
use Rattle.phase_core.specs.Script.{values, published_all}
use Rattle.crew_workers.specs.Codes.{row_at}
use Rattle.crew_workers.specs.Scripts.{script_of, round_by, RowOf, Outputs}
use Rattle.crew_workers.proofs.Rows.{outputs_push}
use Rattle.crew_workers.specs.Asked.{AreCounted, PublishOwn}
use Rattle.crew_workers.proofs.Asked.{asked_of}
use Rattle.crew_workers.proofs.Scripts.{values_next, publish_at}
use Rattle.crew_workers.proofs.turns.run_cycles.Goals as goal

pub run_cycle-requires-clause-frame : goal.run_cycle-requires-clause-frame
run_cycle-requires-clause-frame g c = record { each = λ k d h. let m = c.loop-cycle.invariant.frame in let f = c.requires.frame.each k d h in omega (arith, m, f) }

pub run_cycle-requires-clause-few : goal.run_cycle-requires-clause-few
run_cycle-requires-clause-few g c = let few = (asked_of c.args.team.now.codes.now c.args.words.now c.args.rows.now c.requires.runs).few in omega (arith, few)

pub run_cycle-requires-clause-counted : goal.run_cycle-requires-clause-counted
run_cycle-requires-clause-counted g c = subst (AreCounted c.args.team.now.codes.now) (sym c.loop-cycle.invariant.many) (asked_of c.args.team.now.codes.now c.args.words.now c.args.rows.now c.requires.runs).counted

pub run_cycle-requires-clause-own : goal.run_cycle-requires-clause-own
run_cycle-requires-clause-own g c = (asked_of c.args.team.now.codes.now c.args.words.now c.args.rows.now c.requires.runs).own_places

pub run_cycle-requires-clause-publish : goal.run_cycle-requires-clause-publish
run_cycle-requires-clause-publish g c =
    let codes = c.args.team.now.codes.now in let rows = c.args.rows.now in let n = c.loop-cycle.cycle in let test = c.loop-cycle-test.true in
    let at : c.index-rows-cycle.result ≡ row_at rows n = c.index-rows-cycle.is ∙ get_or_default rows n c.index-rows-cycle.result [] test in
    subst (PublishOwn codes c.loop-cycle.words) (sym at)
    (subst (λ (ws : List ℕ). PublishOwn codes ws (row_at rows n)) (sym c.loop-cycle.invariant.words) (publish_at codes c.args.words.now rows c.requires.runs n test))

pub loop-cycle-preserved : goal.loop-cycle-preserved
loop-cycle-preserved g c =
    let codes = c.args.team.now.codes.now in let first = c.args.words.now in let rows = c.args.rows.now in let n = c.loop-cycle.cycle in let i = c.loop-cycle.invariant in let e = c.in_ok-row.ensures in
    let test = c.loop-cycle-test.true in let is = c.index-rows-cycle.is in let at : c.index-rows-cycle.result ≡ row_at rows n = is ∙ get_or_default rows n c.index-rows-cycle.result [] test in
    record {
      many = e.many ∙ i.many;
      words = e.words ∙ ap (λ (x : List Value). published_all (round_by codes c.loop-cycle.words x) c.loop-cycle.words) at
          ∙ ap (λ (ws : List ℕ). published_all (round_by codes ws (row_at rows n)) ws) i.words ∙ sym (values_next codes first rows n test);
      outputs = subst (λ (l : List (List Value)). Outputs (script_of codes first rows) codes rows l (n + 1)) (sym c.in_ok-push.ensures.ok)
          (outputs_push (script_of codes first rows) codes rows _ n c.in_ok-row.row i.outputs
          (subst (λ (ws : List ℕ). RowOf codes ws (row_at rows n) c.in_ok-row.row) i.words (subst (λ (x : List Value). RowOf codes c.loop-cycle.words x c.in_ok-row.row) at e.row)));
      room = e.room;
      frame = e.frame ∙ i.frame;
    }
