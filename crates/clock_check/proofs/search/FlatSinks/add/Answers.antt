use Rattle.std.proofs.Common.{◌∙◌, ◌∷◌, ◌++◌, [], ap}
use Rattle.indexmap.specs.IndexMap.{insert_entry}
use Rattle.clock_check.specs.Searched.{sinks_at}
use Rattle.clock_check.proofs.FlatTests.{flat_eq}
use Rattle.clock_check.proofs.Searching.{one_added}
use Rattle.clock_check.proofs.search.FlatSinks.add.Goals as goal

pub returns : goal.returns
returns c = λ y.
    ap (λ es. sinks_at es y) (c.in_ok-insert.ensures.entries ∙ ap (λ es. insert_entry flat_eq es c.args.source c.push.new.self) c.in_ok-held.ensures.entries)
    ∙ one_added c.args.self.now.sinks.entries c.args.source c.in_ok-copy.copy c.args.sink c.new.result c.push.new.self c.in_ok-held.held c.in_ok-copy.ensures c.in_ok-held.ensures.old
    (c.in_ok-push.ensures.items ∙ ap (λ l. l ++ c.args.sink ∷ []) c.or_none-all.ensures) y
