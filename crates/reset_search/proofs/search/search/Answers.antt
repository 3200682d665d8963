use Rattle.std.proofs.Common.{arith, is_some, ◌∙◌, ap, sym, subst}
use Rattle.reset_search.proofs.Searching.{Adds, searched_first, searched_next, searched_all}
use Rattle.reset_search.proofs.search.search.Goals as goal

pub loop-at-init : goal.loop-at-init
loop-at-init c = (
  searched_first c.args.rows.now.rows.entries c.args.starts.now c.new-found.result.keys.keys c.push_starts.new.found.keys.keys c.new-found.ensures
      (record { within = c.in_ok-push_starts.ensures.within; grows = c.in_ok-push_starts.ensures.grows }),
  omega arith,
)

pub returns-in_default : goal.returns-in_default
returns-in_default c =
    searched_all c.args.rows.now.rows.entries c.args.starts.now c.loop-at.found.keys.keys c.loop-at.at c.loop-at.invariant.0 (sym c.get.ensures.key ∙ c.in_default.is)

pub loop-at-preserved : goal.loop-at-preserved
loop-at-preserved c = (
  searched_next c.args.rows.now.rows.entries c.args.starts.now c.loop-at.found.keys.keys c.push_all.new.found.keys.keys c.loop-at.at c.in-Some.key c.loop-at.invariant.0
      (sym c.get.ensures.key ∙ c.in-Some.is)
      (subst (λ l. Adds c.loop-at.found.keys.keys l c.push_all.new.found.keys.keys) c.of.ensures
      (record { within = c.in_ok-push_all.ensures.within; grows = c.in_ok-push_all.ensures.grows })),
  let small = c.get.ensures.small (ap is_some c.in-Some.is) in omega (arith, small),
)

-- the set would have more numbers than it can
pub unreachable-requires : goal.unreachable-requires
unreachable-requires c = let most = c.loop-at.invariant.1 in omega (arith, most)
