use Rattle.std.proofs.Common.{refl, subst}
use Rattle.std.proofs.lemmas.List.{take_all}
use Rattle.type_index.specs.Sights.{table_of}
use Rattle.module_table.specs.Leading.{ClassAlong}
use Rattle.module_table.proofs.Leading.{along_more}
use Rattle.module_table.proofs.reference.class_along.Goals as goal

pub loop-suffix-init : goal.loop-suffix-init
loop-suffix-init c = λ typ own. ∣ (typ, refl, own) ∣₁

pub loop-suffix-preserved : goal.loop-suffix-preserved
loop-suffix-preserved c = λ typ own.
    along_more (table_of c.args.classes.now) c.args.suffixes.now c.loop-suffix.suffix-index c.suffix-item.result typ c.loop-suffix.class c.in_ok-class.class
    c.loop-suffix-test.true c.suffix-item.is c.in_ok-class.ensures (c.loop-suffix.invariant typ own)

pub returns : goal.returns
returns c = λ typ own.
    subst (λ steps. ClassAlong (table_of c.args.classes.now) steps typ c.loop-suffix.class) (take_all c.loop-suffix.suffix-index c.args.suffixes.now c.loop-suffix-test.false)
    (c.loop-suffix.invariant typ own)
