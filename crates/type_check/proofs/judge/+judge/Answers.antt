use Rattle.std.proofs.Common.{rules, All, refl, sym, ap, ◌∙◌, map, take, subst, if◌then◌else◌}
use Rattle.std.specs.Prelude.{Some, None}
use Rattle.std.proofs.lemmas.Result.{on_ok_weaker}
use Rattle.std.proofs.lemmas.List.Elements.{All-push}
use Rattle.type_check.specs.Expressions.{found_of, suffix_step, judged, typed_operands, all_among}
use Rattle.type_check.specs.Judging.{part_reached, operand_of, IsFound, together}
use Rattle.type_check.specs.Walks.{Adds}
use Rattle.type_check.proofs.Judgements.{map_more, typed_some, typed_none, together-push, TakesOn, takes_more}
use Rattle.type_check.proofs.Forms.{adds_literal, adds_operation, adds_choice, adds_filled}
use Rattle.type_check.proofs.judge.+judge.Goals.{judge_all-in-Some+in_ok-push-in-Some, judge_all-in-None}
use Rattle.type_check.proofs.judge.+judge.Goals as goal

pub judge-returns-clause-found : goal.judge-returns-clause-found
judge-returns-clause-found t c =
    adds_filled c.args.expr.now.place (found_of c.args.known.now.parts c.args.expr.now) c.in_ok-part.part c.len-at.result
    c.args.found.now (record { types = c.push.new.self; faults = c.args.found.now.faults }) c.judge_form.new.found
    (record { types = c.fill.new.types; faults = c.judge_form.new.found.faults })
    (search rules) (search rules) refl c.in_ok-part.ensures.found c.in_ok-part.ensures.part c.in_ok-fill.ensures refl

pub judge_form-returns-in-Literal-clause-found : goal.judge_form-returns-in-Literal-clause-found
judge_form-returns-in-Literal-clause-found t c =
    on_ok_weaker c.judge_literal.result
    (λ faults. adds_literal c.args.known.now.parts c.args.expr.now c.in-Literal.sign c.in-Literal.width c.in-Literal.number c.in-Literal.is refl faults)
    c.judge_literal.ensures.faults

pub judge_form-returns-in-Some-clause-found : goal.judge_form-returns-in-Some-clause-found
judge_form-returns-in-Some-clause-found t c =
    on_ok_weaker c.judge_operation.result
    (adds_operation c.args.known.now.parts c.args.expr.now c.in-Prim.op c.in-Prim.operands c.in-Prim.field-2 c.in-Some.typed.items
    c.args.found.now c.judge_all.new.found (record { types = c.judge_all.new.found.types; faults = c.judge_operation.new.faults })
    c.in-Prim.is (search rules) (rw c.as_slice-in-Prim.ensures at c.in_ok-typed-in-Prim.ensures.found) refl)
    (rw c.as_slice-in-Some.ensures.value at c.judge_operation.ensures.faults)

pub judge_form-returns-in-Some-2-clause-found : goal.judge_form-returns-in-Some-2-clause-found
judge_form-returns-in-Some-2-clause-found t c =
    on_ok_weaker c.judge_choice.result
    (adds_choice c.args.known.now.parts c.args.expr.now c.in-Mux.operands c.in-Some-2.typed.items
    c.args.found.now c.judge_all-in-Mux.new.found (record { types = c.judge_all-in-Mux.new.found.types; faults = c.judge_choice.new.faults })
    c.in-Mux.is (search rules) (rw c.as_slice-in-Mux.ensures at c.in_ok-typed-in-Mux.ensures.found) refl)
    (rw c.as_slice-in-Some-2.ensures.value at c.judge_choice.ensures.faults)

pub judge_all-loop-expr-preserved : goal.judge_all-loop-expr-preserved
judge_all-loop-expr-preserved t c =
    let known = c.args.known.now.parts in
    let before = map judged (take c.loop-expr.expr-index c.args.exprs.now) in
    let e = c.expr-item.result in
    let held = c.match-branch-2.typed.items in
    let more = map_more judged c.args.exprs.now c.loop-expr.expr-index e (search rules) (search rules) in
    record {
      operands = ap (typed_operands known) more ∙ elim c.match-branch-2.branch [
        | judge_all-in-Some+in_ok-push-in-Some w ↦
            typed_some known before e w.in-Some.part c.loop-expr.complete c.loop-expr.typed.items held _ c.loop-expr.invariant.operands
            (sym w.in-Some.is ∙ c.in_ok-part.ensures.part) (ap (λ v. v.items) w.typed-is ∙ w.in_ok-push-in-Some.ensures.items) refl refl
            ∙ ap (λ b. if b then Some (map operand_of held) else None) (sym w.complete-is)
        | judge_all-in-None w ↦
            typed_none known before e c.loop-expr.complete c.loop-expr.typed.items c.loop-expr.invariant.operands
            (sym w.in-None.is ∙ c.in_ok-part.ensures.part) ∙ ap (λ b. if b then Some (map operand_of held) else None) (sym w.complete-is)
      ];
      typed = elim c.match-branch-2.branch [
        | judge_all-in-Some+in_ok-push-in-Some w ↦
            subst (All (IsFound known)) (sym (ap (λ v. v.items) w.typed-is ∙ w.in_ok-push-in-Some.ensures.items))
            (All-push (IsFound known) c.loop-expr.typed.items _ c.loop-expr.invariant.typed (sym c.in_ok-part.ensures.part ∙ w.in-Some.is))
        | judge_all-in-None w ↦ subst (All (IsFound known)) (sym (ap (λ v. v.items) w.typed-is)) c.loop-expr.invariant.typed
      ];
      found = subst (λ es. Adds (together (all_among known es)) c.args.found.now c.judge.new.found) (sym more)
          (together-push known before (judged e) c.loop-expr.invariant.found c.in_ok-part.ensures.found);
    }

pub walk_steps-loop-suffix-preserved : goal.walk_steps-loop-suffix-preserved
walk_steps-loop-suffix-preserved t c =
    let on = takes_more (map suffix_step (take c.loop-suffix.suffix-index c.args.suffixes.now)) (suffix_step c.suffix-item.result) c.args.known.now.parts
    (part_reached c.args.base) (part_reached c.loop-suffix.reached) (part_reached c.in_ok-reached.reached)
    c.loop-suffix.invariant.part c.loop-suffix.invariant.found c.in_ok-reached.ensures.part c.in_ok-reached.ensures.found in
    let more = map_more suffix_step c.args.suffixes.now c.loop-suffix.suffix-index c.suffix-item.result (search rules) (search rules) in
    let all = subst (λ steps. TakesOn steps c.args.known.now.parts (part_reached c.args.base) (part_reached c.in_ok-reached.reached) c.args.found.now c.take_step.new.found) (sym more) on in
    record { part = all.part; found = all.found }
