use Rattle.std.proofs.Common.{arith, is_some, ◌∙◌, ap, sym, subst}
use Rattle.std.specs.Option.{option_copied}
use Rattle.clock_check.specs.Flats.{leaf_of_flat}
use Rattle.clock_check.proofs.Searching.{Adds, searched_first, searched_next, searched_all}
use Rattle.clock_check.proofs.search.search.Goals as goal

pub loop-at-init : goal.loop-at-init
loop-at-init c =
    (searched_first c.args.sinks.now.sinks.entries (leaf_of_flat c.args.root) c.new-found.result.keys.keys c.insert.new.self.keys.keys c.new-found.ensures c.in_ok-insert.ensures.within, omega arith)

pub returns-in_default : goal.returns-in_default
returns-in_default c =
    searched_all c.args.sinks.now.sinks.entries (leaf_of_flat c.args.root) c.loop-at.found.keys.keys c.loop-at.at c.loop-at.invariant.0
    (sym c.get.ensures.key ∙ ap option_copied c.in_default.is)

pub loop-at-preserved : goal.loop-at-preserved
loop-at-preserved c = (
  searched_next c.args.sinks.now.sinks.entries (leaf_of_flat c.args.root) c.loop-at.found.keys.keys c.push_all.new.found.keys.keys c.loop-at.at c.in-Some.key.now c.loop-at.invariant.0
      (sym c.get.ensures.key ∙ ap option_copied c.in-Some.is)
      (subst (λ l. Adds c.loop-at.found.keys.keys l c.push_all.new.found.keys.keys) c.of-next.ensures
      (record { within = c.in_ok-push_all.ensures.within; grows = c.in_ok-push_all.ensures.grows })),
  let small = c.get.ensures.small (ap is_some c.in-Some.is) in omega (arith, small),
)

-- the set would have more leaves than it can
pub unreachable-requires : goal.unreachable-requires
unreachable-requires c = let most = c.loop-at.invariant.1 in omega (arith, most)
