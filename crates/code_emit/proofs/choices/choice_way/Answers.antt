use Rattle.std.proofs.Common.{[], ◌∷◌, sym, subst, arith}
use Rattle.ground_net.specs.Grounds.{chosen}
use Rattle.code_emit.specs.Ways.{Operates, IsPlain}
use Rattle.code_emit.proofs.Twos.{choice_operates}
use Rattle.code_emit.proofs.choices.choice_way.Goals as goal

pub returns-in-Unsigned : goal.returns-in-Unsigned
returns-in-Unsigned c =
    let p : IsPlain c.args.condition = record { kind = c.in-Unsigned.is; few = omega (arith, c.if-condition-gt64.false) } in
    subst (λ i. Operates i (c.args.condition ∷ c.args.first ∷ c.args.second ∷ []) chosen) (sym c.choosing.ensures)
    (choice_operates c.args.condition c.args.first c.args.second p (omega (arith, c.if-first-gt64.false)) (omega (arith, c.if-second-gt64.false)))
