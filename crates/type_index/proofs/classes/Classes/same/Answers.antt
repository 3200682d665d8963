use Rattle.std.proofs.Common.{nat_eq, true}
use Rattle.std.proofs.lemmas.Bool.{eqb-true, eq-eqb}
use Rattle.std.proofs.Math.Bool.{Bool-set}
use Rattle.std.proofs.Math.Logic.{∥∥₁_map, ∥∥₁_elim}
use Rattle.type_index.proofs.Same.{equal_numbers, equivalent_numbers}
use Rattle.type_index.proofs.classes.Classes.same.Goals as goal

pub returns : goal.returns
returns c = λ left right h k. (
  λ is. ∥∥₁_map c.args.self.now.sound (λ s. equal_numbers s h k (eqb-true c.args.one c.args.other is)),
  λ q. ∥∥₁_elim c.args.self.now.sound (Bool-set (nat_eq c.args.one c.args.other) true)
      (λ s. ∥∥₁_elim q (Bool-set (nat_eq c.args.one c.args.other) true) (λ e. eq-eqb c.args.one c.args.other (equivalent_numbers s e h k))),
)
