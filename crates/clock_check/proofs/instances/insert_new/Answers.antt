use Rattle.std.proofs.Common.{rules, ◌≡◌, ap, sym, ◌∙◌, nat_eq, if◌then◌else◌, ◌++◌, ◌∷◌, []}
use Rattle.std.specs.Prelude.{Option, None, is_some}
use Rattle.indexmap.specs.IndexMap.{get}
use Rattle.indexmap.proofs.CallerLemmas.{insert_entry-new}
use Rattle.clock_check.proofs.instances.insert_new.Goals as goal

pub returns-in_ok-insert : goal.returns-in_ok-insert
returns-in_ok-insert c =
    let none : get nat_eq c.args.targets.now c.args.instance.name ≡ None = search rules in
    c.in_ok-insert.ensures.entries ∙ insert_entry-new nat_eq c.args.targets.now c.args.instance.name c.args.instance.target none
    ∙ sym (ap (λ (o : Option _). if is_some o then c.args.targets.now.entries else c.args.targets.now.entries ++ (c.args.instance.name, c.args.instance.target) ∷ []) none)
