use Rattle.std.proofs.Common.{◌≡◌, ◌+◌, sym, ap, ap₂, subst, ◌∙◌, slice_get}
use Rattle.ground_net.specs.declared.circuit.DrivenModule.{DrivenModule}
use Rattle.flatten_instances.specs.declared.plan.Level.{Level}
use Rattle.flatten_instances.specs.Numbers.{driver_in, driver_with}
use Rattle.flatten_instances.specs.Plans.{HeldDriver}
use Rattle.flatten_instances.proofs.Lists.{some_same}
use Rattle.flatten_instances.proofs.drivers.held_driver.Goals as goal

pub returns-in_ok-driver-in-Some : goal.returns-in_ok-driver-in-Some
returns-in_ok-driver-in-Some c = subst (λ h. HeldDriver c.args.driven.now c.args.plan.now h c.args.number c.in_ok-driver-in-Some.driver) (sym c.in-Some.is)
    (λ outer m table e f g.
    let one : c.level_of.result.now ≡ outer = some_same (sym c.level_of.ensures ∙ e) in
    let two : c.module_of-owner.result.now ≡ m = some_same (sym c.module_of-owner.ensures ∙ (ap (λ (l : Level). slice_get c.args.driven.now.modules l.module) one ∙ f)) in
    let three : c.table_of-numbers.result.now ≡ table = some_same (sym c.table_of-numbers.ensures ∙ g) in
    c.in_ok-driver-in-Some.ensures ∙ ap₂ (λ t (k : DrivenModule). driver_with t (driver_in k (c.in-Some.holder.first + c.args.number))) three two)
