use Rattle.std.proofs.Common.{rules, ◌≡◌, ap, sym, ◌∙◌, nat_eq, if◌then◌else◌, ◌++◌, ◌∷◌, []}
use Rattle.std.specs.Prelude.{Option, None, is_some}
use Rattle.indexmap.specs.IndexMap.{get}
use Rattle.indexmap.proofs.CallerLemmas.{insert_entry-new}
use Rattle.reset_search.specs.declared.spot.Reach.{Reach}
use Rattle.reset_resolution.proofs.walk.note.Goals as goal

pub returns-in_ok-insert : goal.returns-in_ok-insert
returns-in_ok-insert c =
    let none : get nat_eq c.args.known.now c.args.name ≡ None = search rules in
    c.in_ok-insert.ensures.entries ∙ insert_entry-new nat_eq c.args.known.now c.args.name c.args.component none
    ∙ sym (ap (λ (o : Option Reach). if is_some o then c.args.known.now.entries else c.args.known.now.entries ++ (c.args.name, c.args.component) ∷ []) none)
