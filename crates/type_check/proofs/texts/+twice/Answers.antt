use Rattle.std.proofs.Common.{arith}
use Rattle.std.proofs.lemmas.Grind.{common_steps}
use Rattle.type_check.proofs.Seconds.{twice-bundle}
use Rattle.type_check.proofs.texts.+twice.Goals as goal

pub push_twice-returns-in-Bundle : goal.push_twice-returns-in-Bundle
push_twice-returns-in-Bundle t c =
    let e = twice-bundle c.loop-inside.inside.now c.in-Bundle.fields c.in-Bundle.is in
    let before = c.loop-inside.invariant.0 in
    let within = c.loop-inside.invariant.1 in
    grind (arith, common_steps, e, before, within)
