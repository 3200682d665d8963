use Rattle.std.proofs.Common.{rules, ◌≡◌, ◌==◌, true, false, drop, arith}
use Rattle.std.proofs.lemmas.Grind.{common_steps}
use Rattle.fir_meaning.specs.Components.{design_of, module_named}
use Rattle.plain_cycle.proofs.Modules.{named_here, named_later}
use Rattle.plain_cycle.proofs.places.parts_of.Goals as goal

pub returns-then-holder-name : goal.returns-then-holder-name
returns-then-holder-name c =
    let same : (c.holder-item.result.name.id == c.args.name) ≡ true = grind (arith, common_steps, c.if-holder-name.true) in
    named_here c.args.name c.as_slice-holder-items.result.now c.loop-holder.types.now c.loop-holder.holder-index c.holder-item.result c.in_ok-declared.declared.items
    (module_named (design_of c.args.fitted.now) c.args.name) (omega arith) c.holder-item.is c.in_ok-declared.ensures same c.loop-holder.invariant

pub loop-holder-preserved : goal.loop-holder-preserved
loop-holder-preserved c =
    let other : (c.holder-item.result.name.id == c.args.name) ≡ false = grind (arith, common_steps, c.if-holder-name.false) in
    let later : c.unwrap_or-types.result.now ≡ drop c.len.result c.loop-holder.types.now = grind (arith, common_steps) in
    named_later c.args.name c.as_slice-holder-items.result.now c.loop-holder.types.now c.unwrap_or-types.result.now c.loop-holder.holder-index c.holder-item.result c.in_ok-declared.declared.items
    c.len.result (module_named (design_of c.args.fitted.now) c.args.name) (omega arith) c.holder-item.is c.in_ok-declared.ensures (search rules) later other c.loop-holder.invariant
