use Rattle.std.proofs.Common.{refl, subst}
use Rattle.std.proofs.lemmas.List.{take_all}
use Rattle.module_table.specs.Leading.{AreBehind}
use Rattle.module_table.proofs.Leading.{behind_more}
use Rattle.module_table.proofs.reference.part_along.Goals as goal

pub loop-suffix-init : goal.loop-suffix-init
loop-suffix-init c = refl

pub loop-suffix-preserved : goal.loop-suffix-preserved
loop-suffix-preserved c =
    behind_more c.args.suffixes.now c.loop-suffix.suffix-index c.suffix-item.result c.args.base.typ.now c.loop-suffix.reached.typ.now c.in_ok-reached.reached.typ.now
    c.loop-suffix-test.true c.suffix-item.is c.loop-suffix.invariant c.in_ok-reached.ensures

pub returns : goal.returns
returns c =
    subst (λ steps. AreBehind steps c.args.base.typ.now c.loop-suffix.reached.typ.now) (take_all c.loop-suffix.suffix-index c.args.suffixes.now c.loop-suffix-test.false)
    c.loop-suffix.invariant
