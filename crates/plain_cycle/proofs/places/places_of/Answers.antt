use Rattle.std.proofs.Common.{rules, arith, refl}
use Rattle.plain_cycle.proofs.Placing.{first_listed, more_listed, all_listed, one_more, no_end}
use Rattle.plain_cycle.proofs.places.places_of.Goals as goal

pub loop-at-init : goal.loop-at-init
loop-at-init c =
    let fitted = c.args.fitted.now in (
      first_listed fitted c.requires (c.names_are_declared_once.ensures fitted.checked.resolved c.requires.names) (c.modules_are_named.ensures.meant fitted) fitted.checked.resolved.main.id
          c.new-places.result.items c.push.new.self.items c.new.result refl c.new-places.ensures.items c.new.ensures.items (rw c.get.ensures at c.in_ok-push.ensures.items),
      omega arith,
    )

pub returns-in_default : goal.returns-in_default
returns-in_default c =
    let fitted = c.args.fitted.now in
    all_listed fitted c.requires (c.names_are_declared_once.ensures fitted.checked.resolved c.requires.names) (c.modules_are_named.ensures.meant fitted) c.loop-at.places.items c.deref.result.now c.loop-at.at
    c.loop-at.invariant.0 c.deref.ensures.value (search rules)

pub loop-at-preserved : goal.loop-at-preserved
loop-at-preserved c =
    let fitted = c.args.fitted.now in (
      more_listed fitted c.requires (c.names_are_declared_once.ensures fitted.checked.resolved c.requires.names) (c.modules_are_named.ensures.meant fitted) c.loop-at.places.items c.deref.result.now
          c.in_ok-next.next.items c.append.new.self.items c.loop-at.at c.in-Some.place.now c.loop-at.invariant.0 c.deref.ensures.value (search rules) (search rules) c.in_ok-next.ensures c.in_ok-append.ensures.items,
      one_more c.loop-at.places.items c.deref.result.now c.in_ok-next.next.items c.append.new.self.items c.loop-at.at c.deref.ensures.value (search rules) c.in_ok-append.ensures.items,
    )

-- the list would be longer than a list can be
pub unreachable-requires : goal.unreachable-requires
unreachable-requires c = no_end c.loop-at.places c.loop-at.at c.loop-at.invariant.1 (omega arith)
