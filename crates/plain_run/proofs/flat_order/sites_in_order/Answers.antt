use Rattle.std.proofs.Common.{◌∙◌, ◌++◌, ap, sym, map, length, rules}
use Rattle.std.specs.Option.{option_to_list}
use Rattle.fir_meaning.specs.Components.{design_of, module_named}
use Rattle.plain_cycle.specs.Layouts.{site_of, located_in}
use Rattle.plain_run.proofs.Walking.{none_walked, walked_more, all_walked, one_longer}
use Rattle.plain_run.proofs.flat_order.sites_in_order.Goals as goal

pub loop-step-init : goal.loop-step-init
loop-step-init c =
    let fitted = c.args.fitted.now in (
      none_walked fitted c.requires (c.names_are_declared_once.ensures fitted.checked.resolved c.requires.names) (c.modules_are_named.ensures.meant fitted) c.new-behind.result.items
          c.in_ok-ahead.ahead.items c.new-behind.ensures.items
          ((rw c.get.ensures at c.in_ok-ahead.ensures) ∙ ap (λ path. map site_of (located_in path (module_named (design_of fitted) fitted.checked.resolved.main.id))) c.new.ensures.items),
      sym (ap length c.new-behind.ensures.items),
    )

pub returns-in_default : goal.returns-in_default
returns-in_default c =
    all_walked (design_of c.args.fitted.now) c.requires.bundles c.loop-step.behind.items c.loop-step.ahead.items c.loop-step.invariant.0 (search rules)

pub loop-step-preserved : goal.loop-step-preserved
loop-step-preserved c = (
  walked_more (design_of c.args.fitted.now) c.requires.bundles c.loop-step.behind.items c.loop-step.ahead.items c.pop.new.self.items c.push_inside.new.ahead.items c.push.new.self.items c.in-Some.site
      c.loop-step.invariant.0 (c.pop.ensures.items ∙ ap (λ o. c.pop.new.self.items ++ option_to_list o) c.in-Some.is) c.in_ok-push_inside.ensures c.in_ok-push.ensures.items,
  one_longer c.loop-step._step c.loop-step.behind.items c.push.new.self.items c.in-Some.site c.loop-step.invariant.1 c.in_ok-push.ensures.items,
)
