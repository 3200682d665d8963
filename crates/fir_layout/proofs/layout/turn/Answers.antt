use Rattle.std.proofs.Common.{arith, ◌≡◌, ◌-◌, ◌∷◌, [], length, take, append-nil, sym}
use Rattle.std.proofs.lemmas.Grind.{common_steps}
use Rattle.fir_layout.specs.declared.laid.Laid.TheVariants.{Open}
use Rattle.fir_layout.specs.Layout.{greater, equal}
use Rattle.fir_layout.proofs.Turning.{turn_closed, level_not_above}
use Rattle.fir_layout.proofs.layout.turn.Goals as goal

pub returns-then-deeper-gt0 : goal.returns-then-deeper-gt0
returns-then-deeper-gt0 c =
    let count = rw c.deref.ensures.value at c.deeper-deeper.ensures.count in
    let after : c.truncate.new.self.items ≡ take (length c.args.blocks.now.items - c.deeper-deeper.result) c.args.blocks.now.items = grind (arith, common_steps) in
    let lev = rw c.deref-then-deeper-gt0.ensures.value at c.level_of.ensures in
    turn_closed c.args.blocks.now.items c.truncate.new.self.items c.args.indent c.args.at c.level_of.result c.deeper-deeper.result c.args.laid.now.items c.close.new.laid.items
    count c.if-deeper-gt0.true after lev c.in_ok-close.ensures

pub returns-in_ok-push-2 : goal.returns-in_ok-push-2
returns-in_ok-push-2 c =
    let lev = rw c.deref-2.ensures.value at c.level_of-2.ensures in
    (Open c.args.at ∷ [], rw c.in_ok-push.ensures.items (greater (omega (arith, lev, c.if-level_of-indent.true))), c.in_ok-push-2.ensures.items)

pub returns-else-level_of-indent : goal.returns-else-level_of-indent
returns-else-level_of-indent c =
    let count = rw c.deref.ensures.value at c.deeper-deeper.ensures.count in
    let lev = rw c.deref-2.ensures.value at c.level_of-2.ensures in
    let not_above = level_not_above c.args.indent c.args.blocks.now.items (omega (arith, count, c.if-deeper-gt0.false)) in
    ([], equal (omega (arith, lev, not_above, c.if-level_of-indent.false)), sym (append-nil _))
