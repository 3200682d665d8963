use Rattle.std.proofs.lemmas.Result.{IfOk-weaker}
use Rattle.type_index.proofs.tree.TypeIndex.of_nothing.Goals as goal

pub returns : goal.returns
returns c = IfOk-weaker c.finish.result _ _ (λ index h texts typ is. h texts typ is (c.new.ensures texts)) c.finish.ensures
