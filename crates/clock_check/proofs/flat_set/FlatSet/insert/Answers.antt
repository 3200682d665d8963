use Rattle.std.proofs.Common.{◌∙◌, ap, subst, sym}
use Rattle.clock_check.specs.Flats.{is_within}
use Rattle.clock_check.specs.Searched.{Grows}
use Rattle.clock_check.proofs.FlatTests.{one_more}
use Rattle.clock_check.proofs.Searching.{grows_one}
use Rattle.clock_check.proofs.flat_set.FlatSet.insert.Goals as goal

pub returns-clause-within : goal.returns-clause-within
returns-clause-within c = λ x. ap (λ keys. is_within keys x) c.in_ok-insert.ensures.keys ∙ one_more c.args.self.now.keys.keys c.args.key x

pub returns-clause-grows : goal.returns-clause-grows
returns-clause-grows c = subst (Grows c.args.self.now.keys.keys) (sym c.in_ok-insert.ensures.keys) (grows_one c.args.self.now.keys.keys c.args.key)
