use Rattle.std.proofs.Common.{◌∙◌, ap, subst, sym}
use Rattle.reset_search.specs.Rows.{holds, Grows}
use Rattle.reset_search.proofs.Searching.{grows_one, one_more}
use Rattle.reset_search.proofs.search.Marks.insert.Goals as goal

pub returns-clause-within : goal.returns-clause-within
returns-clause-within c = λ k. ap (λ keys. holds keys k) c.in_ok-insert.ensures.keys ∙ one_more c.args.self.now.keys.keys c.args.key k

pub returns-clause-grows : goal.returns-clause-grows
returns-clause-grows c = subst (Grows c.args.self.now.keys.keys) (sym c.in_ok-insert.ensures.keys) (grows_one c.args.self.now.keys.keys c.args.key)
