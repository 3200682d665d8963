use Rattle.std.proofs.Common.{arith}
use Rattle.std.proofs.lemmas.Grind.{common_steps}
use Rattle.reset_search.proofs.Holding.{holds-bundle, holds-async}
use Rattle.reset_search.proofs.sources.+holds.Goals as goal

pub holds_async-returns-in-Bundle : goal.holds_async-returns-in-Bundle
holds_async-returns-in-Bundle t c =
    let e = holds-bundle c.loop-inside.inside.now c.in-Bundle.fields c.in-Bundle.is in
    let h = c.loop-inside.invariant.0 in
    grind (arith, common_steps, e, h)

pub holds_async-returns-in-AsyncReset : goal.holds_async-returns-in-AsyncReset
holds_async-returns-in-AsyncReset t c =
    let e = holds-async c.loop-inside.inside.now c.in-AsyncReset.is in
    let h = c.loop-inside.invariant.0 in
    grind (arith, common_steps, e, h)
