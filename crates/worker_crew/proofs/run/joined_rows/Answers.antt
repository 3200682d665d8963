use Rattle.std.proofs.Common.{◌<◌, [], length, get_or, ap, sym, subst, ◌∙◌, arith}
use Rattle.phase_core.specs.declared.model.Script.{Script}
use Rattle.phase_core.specs.Script.{values}
use Rattle.crew_workers.proofs.Asked.{asked_of}
use Rattle.crew_workers.proofs.Rows.{outputs_many}
use Rattle.crew_workers.specs.Codes.{row_at}
use Rattle.worker_crew.specs.Crew.{task_of, Parts}
use Rattle.crew_workers.specs.Scripts.{script_of}
use Rattle.worker_crew.proofs.Joining.{outputs_joined}
use Rattle.worker_crew.proofs.run.joined_rows.Goals as goal

pub join_rows-requires-clause-own : goal.join_rows-requires-clause-own
join_rows-requires-clause-own g c = (asked_of c.args.shared.now.codes.now c.args.words.now c.args.shared.now.rows.now c.requires.runs).own_places

pub join_rows-requires-clause-rows : goal.join_rows-requires-clause-rows
join_rows-requires-clause-rows g c = λ k h. c.requires.parts.many k (omega arith) h ∙ ap (λ (s : Script). s.cycles) c.requires.script ∙ sym c.len.ensures

pub join_rows-requires-clause-many : goal.join_rows-requires-clause-many
join_rows-requires-clause-many g c = λ k n d h lt.
    let cycles = ap (λ (s : Script). s.cycles) c.requires.script in let many = c.requires.parts.many k (omega arith) h in let rows = c.len.ensures in
    let lt' : n < length (get_or c.args.parts.now k []) = omega (arith, lt, cycles, many, rows) in
    ap length ((c.requires.parts.each k d (omega arith) h).each n lt') ∙ outputs_many c.args.shared.now.codes.now k d (values g.N.Plan.script n) (row_at c.args.shared.now.rows.now n)

pub returns : goal.returns
returns g c =
    let codes = c.args.shared.now.codes.now in let rows = c.args.shared.now.rows.now in let e = c.in_ok-rows.ensures in
    outputs_joined (script_of codes c.args.words.now rows) (task_of c.args.shared.now) c.args.parts.now c.in_ok-rows.rows
    (subst (λ (s : Script). Parts s (task_of c.args.shared.now) c.args.parts.now 0) c.requires.script c.requires.parts) e.joined (e.many ∙ c.len.ensures)
