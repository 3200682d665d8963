use Rattle.std.proofs.Common.{rules, ◌≡◌, ap, sym, ◌∙◌, nat_eq, if◌then◌else◌, ◌++◌, ◌∷◌, []}
use Rattle.std.specs.Prelude.{Option, None, is_some}
use Rattle.indexmap.specs.IndexMap.{get}
use Rattle.indexmap.proofs.CallerLemmas.{insert_entry-new}
use Rattle.ground_exprs.specs.declared.component.Component.{Component}
use Rattle.lower_aggregates.specs.Views.{entry_of}
use Rattle.lower_aggregates.proofs.view.insert_new.Goals as goal

pub returns-in_ok-insert : goal.returns-in_ok-insert
returns-in_ok-insert c =
    let none : get nat_eq c.args.known.now c.args.piece.now.name.id ≡ None = search rules in
    c.in_ok-insert.ensures.entries ∙ insert_entry-new nat_eq c.args.known.now c.args.piece.now.name.id _ none
    ∙ ap (λ t. c.args.known.now.entries ++ (c.args.piece.now.name.id, record { typ = t; first = c.args.piece.now.first }) ∷ []) c.in_ok-new.ensures
    ∙ sym (ap (λ (o : Option Component). if is_some o then c.args.known.now.entries else c.args.known.now.entries ++ entry_of c.args.piece.now ∷ []) none)
