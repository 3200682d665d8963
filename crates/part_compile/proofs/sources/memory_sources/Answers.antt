use Rattle.std.proofs.Common.{◌≡◌, ◌+◌, ◌<◌, length, slice_get, Some, sym, subst, ap, ◌∙◌, arith}
use Rattle.std.proofs.lemmas.Option.{slice_get-get_or}
use Rattle.part_compile.specs.KeptRows.{AreMemoriesOf}
use Rattle.part_compile.proofs.Rowed.{memories_more, number_there}
use Rattle.part_compile.proofs.sources.memory_sources.Goals as goal

pub elements_of-requires-clause-first : goal.elements_of-requires-clause-first
elements_of-requires-clause-first c =
    let memories = c.args.net.now.memories in
    let xs = c.as_slice-memory-items.result.now in
    let i = c.loop-memory.memory-index in
    let memory = c.memory-item.result in
    let test = c.loop-memory-test.true in
    let below : i < length xs = omega (arith, test) in
    let there : slice_get memories i ≡ Some memory = ap (λ l. slice_get l i) (sym c.as_slice-memory-items.ensures) ∙ (slice_get-get_or xs i memory below ∙ ap Some (sym c.memory-item.is)) in
    number_there memories i memory c.requires.elements there

pub loop-memory-preserved : goal.loop-memory-preserved
loop-memory-preserved c =
    let memories = c.args.net.now.memories in
    let xs = c.as_slice-memory-items.result.now in
    let i = c.loop-memory.memory-index in
    let memory = c.memory-item.result in
    let test = c.loop-memory-test.true in
    let below : i < length xs = omega (arith, test) in
    let there : slice_get memories i ≡ Some memory = ap (λ l. slice_get l i) (sym c.as_slice-memory-items.ensures) ∙ (slice_get-get_or xs i memory below ∙ ap Some (sym c.memory-item.is)) in
    subst (AreMemoriesOf memories (i + 1)) (sym c.in_ok-push.ensures.ok) (memories_more memories i c.loop-memory.sources memory c.in_ok-elements_of.field-0 c.loop-memory.invariant there c.in_ok-elements_of.ensures)
