use Rattle.std.proofs.Common.{◌≡◌, ◌+◌, ◌≤◌, ℕ, subst, sym, ap, ◌∙◌, get_or, arith}
use Rattle.std.proofs.lemmas.List.{get_or_default}
use Rattle.phase_core.specs.declared.model.Script.{Script}
use Rattle.phase_core.specs.Sound.{view}
use Rattle.flat_code.specs.declared.code.Code.{Code}
use Rattle.flat_code.specs.Codes.{frame_length}
use Rattle.crew_workers.specs.Codes.{Follows}
use Rattle.crew_workers.specs.Scripts.{script_of}
use Rattle.crew_workers.proofs.Scripts.{follows}
use Rattle.worker_crew.proofs.hire.hire.Goals as goal

pub new-requires-clause-follows : goal.new-requires-clause-follows
new-requires-clause-follows g c =
    subst (λ (s : Script). Follows s c.args.number c.index-codes-number.result c.args.shared.now.rows.now) (sym c.requires.script)
    (subst (λ (x : Code). Follows (script_of c.args.shared.now.codes.now c.args.words.now c.args.shared.now.rows.now) c.args.number x c.args.shared.now.rows.now) (sym c.index-codes-number.is)
    (follows c.args.shared.now.codes.now c.args.words.now c.args.shared.now.rows.now c.requires.runs c.args.number c.index-codes-number.result c.requires.number))

pub returns-clause-fresh : goal.returns-clause-fresh
returns-clause-fresh g c =
    let e = c.in_ok-worker.ensures in let n = c.args.number in let codes = c.args.shared.now.codes.now in let x = c.index-codes-number.result in
    let code : x ≡ c.in_ok-worker.worker.desk.duty.code.now = sym e.duty.1 in
    record {
      at = record {
        table_is = e.table ∙ c.requires.table;
        view_is = e.view ∙ c.requires.view ∙ ap (λ (k : ℕ). view k (k + 1) 0 0 0) (sym e.duty.0);
        recorded_is = e.recorded;
      };
      duty = record {
        numbered = omega (arith, e.duty.0, c.requires.number);
        code_is = λ d. ap (λ k. get_or codes k d) e.duty.0 ∙ get_or_default codes n d x c.requires.number ∙ sym c.index-codes-number.is ∙ code;
        rows_are = e.duty.2;
        frame = subst (λ (y : Code). frame_length y ≤ c.args.shared.now.room) (sym c.index-codes-number.is ∙ code) (c.requires.serves.each n x c.requires.number);
      };
    }
