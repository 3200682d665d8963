use Rattle.std.proofs.Common.{◌∙◌, ◌∷◌, ◌++◌, [], ap, nat_eq}
use Rattle.indexmap.specs.IndexMap.{insert_entry}
use Rattle.reset_search.specs.Rows.{targets}
use Rattle.reset_search.proofs.Rowing.{one_added}
use Rattle.reset_search.proofs.rows.Rows.add.Goals as goal

pub returns : goal.returns
returns c = λ k.
    ap (λ es. targets es k) (c.in_ok-insert.ensures.entries ∙ ap (λ es. insert_entry nat_eq es c.args.from c.push.new.self) c.in_ok-held.ensures.entries)
    ∙ one_added c.args.self.now.rows.entries c.args.from c.args.to c.new.result c.push.new.self c.in_ok-held.held c.in_ok-held.ensures.old
    (c.in_ok-push.ensures.ok ∙ ap (λ l. l ++ c.args.to ∷ []) c.or_none-all.ensures) k
