use Rattle.std.proofs.Common.{◌≡◌, ◌+◌, ◌<◌, false, true, take, length, slice_get, nat_lt, if◌then◌else◌, Some, refl, sym, subst, ap, ◌∙◌, arith}
use Rattle.std.proofs.lemmas.Option.{slice_get-get_or}
use Rattle.ground_net.specs.Nets.{element_shape, element_shapes}
use Rattle.ground_net.specs.Words.{word_count, count_words}
use Rattle.part_compile.specs.KeptRows.{AreElementsOf}
use Rattle.part_compile.proofs.Rowed.{element_more, element_within, elements_more, small_depth}
use Rattle.part_compile.proofs.sources.elements_of.Goals as goal

true_false : true ≡ false → ⊥
true_false e = cc

pub overflow_cast-depth : goal.overflow_cast-depth
overflow_cast-depth c =
    let small = small_depth c.args.memory.now (λ e. true_false (sym (c.is_empty.ensures.1 e) ∙ c.if-is_empty.false)) c.requires.few in
    omega (arith, small)

pub overflow_cast-stride : goal.overflow_cast-stride
overflow_cast-stride c =
    let words = c.element_words-stride.ensures.words in
    let first = c.requires.first in
    omega (arith, words, first)

pub overflow_add-base : goal.overflow_add-base
overflow_add-base c =
    let memory = c.args.memory.now in
    let xs = c.as_slice-leaf-items.result.now in
    let i = c.loop-leaf.leaf-index in
    let leaf = c.leaf-item.result in
    let test = c.loop-leaf-test.true in
    let below : i < length xs = omega (arith, test) in
    let there : slice_get memory.elements i ≡ Some leaf = ap (λ l. slice_get l i) (sym c.as_slice-leaf-items.ensures) ∙ (slice_get-get_or xs i leaf below ∙ ap Some (sym c.leaf-item.is)) in
    let within = element_within memory i leaf there in
    let count : c.words_of_width-base.result ≡ word_count (element_shape leaf) = c.words_of_width-base.ensures.words in
    let so_far = c.loop-leaf.invariant.base in
    let first = c.requires.first in
    omega (arith, within, count, so_far, first)

pub loop-leaf-preserved : goal.loop-leaf-preserved
loop-leaf-preserved c =
    let memory = c.args.memory.now in
    let xs = c.as_slice-leaf-items.result.now in
    let i = c.loop-leaf.leaf-index in
    let leaf = c.leaf-item.result in
    let test = c.loop-leaf-test.true in
    let below : i < length xs = omega (arith, test) in
    let there : slice_get memory.elements i ≡ Some leaf = ap (λ l. slice_get l i) (sym c.as_slice-leaf-items.ensures) ∙ (slice_get-get_or xs i leaf below ∙ ap Some (sym c.leaf-item.is)) in
    let more : count_words (take (i + 1) (element_shapes memory)) ≡ count_words (take i (element_shapes memory)) + (if nat_lt 64 leaf.width then 2 else 1) = element_more memory i leaf there in
    let so_far = c.loop-leaf.invariant.base in
    let next = c.words_of_width-base.ensures.words in
    record {
      base = omega (arith, more, so_far, next);
      are = subst (AreElementsOf memory (i + 1)) (sym c.in_ok-push.ensures.ok)
          (elements_more memory i c.loop-leaf.sources leaf _ c.loop-leaf.invariant.are there (record { shape = refl; depth = refl; base = c.loop-leaf.invariant.base; stride = c.element_words-stride.ensures.words }));
    }
