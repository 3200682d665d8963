use Rattle.std.proofs.Common.{rules, ◌≡◌, ap, sym, ◌∙◌, nat_eq, if◌then◌else◌, ◌++◌, ◌∷◌, []}
use Rattle.std.specs.Prelude.{Option, None, is_some}
use Rattle.indexmap.specs.IndexMap.{get}
use Rattle.indexmap.proofs.CallerLemmas.{insert_entry-new}
use Rattle.fir_types.proofs.index.insert_new.Goals as goal

pub returns-in_ok-insert : goal.returns-in_ok-insert
returns-in_ok-insert c =
    let none : get nat_eq c.args.places.now c.args.name ≡ None = search rules in
    c.in_ok-insert.ensures.entries ∙ insert_entry-new nat_eq c.args.places.now c.args.name c.args.place none
    ∙ sym (ap (λ (o : Option _). if is_some o then c.args.places.now.entries else c.args.places.now.entries ++ (c.args.name, c.args.place) ∷ []) none)
