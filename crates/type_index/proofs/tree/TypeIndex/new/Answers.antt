use Rattle.std.proofs.lemmas.Result.{IfOk-weaker}
use Rattle.type_index.proofs.Built.{weaker}
use Rattle.type_index.proofs.tree.TypeIndex.new.Goals as goal

pub returns-clause-knows : goal.returns-clause-knows
returns-clause-knows c = IfOk-weaker c.make.result _ _ (λ index m. ∣ weaker (λ t x r. r.0) m ∣₁) c.make.ensures

pub returns-clause-ways : goal.returns-clause-ways
returns-clause-ways c = IfOk-weaker c.make.result _ _ (λ index m. weaker (λ t x r. r.1) m) c.make.ensures
