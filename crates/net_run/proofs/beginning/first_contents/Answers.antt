use Rattle.std.proofs.Common.{◌≡◌, ◌<◌, length, slice_get, Some, sym, ap, ◌∙◌, arith}
use Rattle.std.proofs.lemmas.Option.{slice_get-get_or}
use Rattle.net_run.proofs.Zeros.{memory_more}
use Rattle.net_run.proofs.beginning.first_contents.Goals as goal

pub loop-memory-preserved : goal.loop-memory-preserved
loop-memory-preserved c =
    let memories = c.args.net.now.memories in
    let xs = c.as_slice-memory-items.result.now in
    let i = c.loop-memory.memory-index in
    let memory = c.memory-item.result in
    let test = c.loop-memory-test.true in
    let below : i < length xs = omega (arith, test) in
    let there : slice_get memories i ≡ Some memory = ap (λ l. slice_get l i) (sym c.as_slice-memory-items.ensures) ∙ (slice_get-get_or xs i memory below ∙ ap Some (sym c.memory-item.is)) in
    memory_more memories i memory c.in_ok-first_held.field-0 c.loop-memory.contents.items c.push.new.self.items c.loop-memory.invariant there c.in_ok-first_held.ensures c.in_ok-push.ensures.items
