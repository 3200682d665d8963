use Rattle.std.proofs.Common.{rules, ◌≡◌, ap, sym, ◌∙◌, nat_eq, if◌then◌else◌, ◌++◌, ◌∷◌, []}
use Rattle.std.specs.Prelude.{Option, None, is_some}
use Rattle.indexmap.specs.IndexMap.{get}
use Rattle.indexmap.proofs.CallerLemmas.{insert_entry-new}
use Rattle.module_table.proofs.modules.insert_new.Goals as goal

pub returns-in_ok-insert-clause-entries : goal.returns-in_ok-insert-clause-entries
returns-in_ok-insert-clause-entries g c =
    let none : get nat_eq c.args.entries.now c.args.name ≡ None = search rules in
    c.in_ok-insert.ensures.entries ∙ insert_entry-new nat_eq c.args.entries.now c.args.name c.args.value none
    ∙ sym (ap (λ (o : Option _). if is_some o then c.args.entries.now.entries else c.args.entries.now.entries ++ (c.args.name, c.args.value) ∷ []) none)
