use Rattle.std.proofs.Common.{rules, ◌≡◌, [], List, get_or, subst}
use Rattle.bit_words.specs.declared.value.Value.{Value}
use Rattle.phase_core.specs.declared.model.Script.{Script}
use Rattle.worker_crew.specs.Crew.{task_of, Parts}
use Rattle.crew_workers.specs.Scripts.{script_of, Outputs}
use Rattle.worker_crew.proofs.Joining.{outputs_whole}
use Rattle.worker_crew.proofs.run.own_rows.Goals as goal

pub returns : goal.returns
returns g c =
    let codes = c.args.shared.now.codes.now in let rows = c.args.shared.now.rows.now in let s = script_of codes c.args.words.now rows in
    let only : get_or c.args.parts.items 0 [] ≡ c.in-Some.rows = search rules in
    subst (λ (l : List (List Value)). Outputs s codes rows l s.cycles) only
    (outputs_whole s (task_of c.args.shared.now) c.args.parts.items (subst (λ (s : Script). Parts s (task_of c.args.shared.now) c.args.parts.items 0) c.requires.script c.requires.parts) c.requires.one c.requires.in_turn)
