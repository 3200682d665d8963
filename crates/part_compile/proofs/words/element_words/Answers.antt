use Rattle.std.proofs.Common.{◌≡◌, ◌<◌, length, slice_get, Some, sym, ap, ◌∙◌, arith}
use Rattle.std.proofs.lemmas.Option.{slice_get-get_or}
use Rattle.ground_net.specs.Nets.{element_shape}
use Rattle.ground_net.specs.Words.{word_count}
use Rattle.part_compile.proofs.Rowed.{element_more}
use Rattle.part_compile.proofs.words.element_words.Goals as goal

pub loop-leaf-preserved : goal.loop-leaf-preserved
loop-leaf-preserved c =
    let memory = c.args.memory.now in
    let xs = c.as_slice-leaf-items.result.now in
    let i = c.loop-leaf.leaf-index in
    let leaf = c.leaf-item.result in
    let test = c.loop-leaf-test.true in
    let below : i < length xs = omega (arith, test) in
    let there : slice_get memory.elements i ≡ Some leaf = ap (λ l. slice_get l i) (sym c.as_slice-leaf-items.ensures) ∙ (slice_get-get_or xs i leaf below ∙ ap Some (sym c.leaf-item.is)) in
    let more = element_more memory i leaf there in
    let so_far = c.loop-leaf.invariant.words in
    let few = c.loop-leaf.invariant.few in
    let two = c.words_of_width.ensures.few in
    let count : c.words_of_width.result ≡ word_count (element_shape leaf) = c.words_of_width.ensures.words in
    record { words = omega (arith, more, so_far, count); few = omega (arith, few, two) }
