use Rattle.std.proofs.Common.{◌≡◌, ◌+◌, Some, ap, ◌∙◌, arith}
use Rattle.flatten_instances.specs.FlatOrder.{spot}
use Rattle.flatten_instances.proofs.Orders.{ports_come_first}
use Rattle.flatten_instances.proofs.laws.ports_come_first.Goals as goal

pub returns : goal.returns
returns c = λ driven path n m items y turn order below.
    let e : 0 + y ≡ y = omega arith in
    ports_come_first turn order y (omega (arith, below)) ∙ ap (λ z. Some (spot path n z)) e
