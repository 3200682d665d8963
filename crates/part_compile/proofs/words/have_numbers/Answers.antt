use Rattle.std.proofs.Common.{◌≡◌, ◌+◌, ◌<◌, false, true, ◌^◌, length, subst, sym, refl, arith}
use Rattle.std.proofs.lemmas.List.{take_all}
use Rattle.std.proofs.lemmas.List.Elements.{All-more}
use Rattle.ground_net.specs.declared.net.NetMemory.{NetMemory}
use Rattle.ground_net.specs.Words.{element_words}
use Rattle.part_compile.specs.FirstWords.{HaveNumbers}
use Rattle.part_compile.proofs.words.have_numbers.Goals as goal

false_true : false ≡ true → ⊥
false_true e = cc

abbrev HasNumbers : NetMemory → Type 0
HasNumbers memory = memory.word + element_words memory < 2 ^ 32

pub loop-memory-preserved : goal.loop-memory-preserved
loop-memory-preserved c =
    let memories = c.args.memories.now in
    let i = c.loop-memory.memory-index in
    let memory = c.memory-item.result in
    let test = c.loop-memory-test.true in
    let below : i < length memories = omega (arith, test) in
    let words = c.element_words.ensures.words in
    let less = c.if-behind-ge-NUMBERS.false in
    let has : HasNumbers memory = omega (arith, words, less) in
    All-more HasNumbers memories i memory below c.loop-memory.invariant (subst HasNumbers c.memory-item.is has)

pub returns-then-behind-ge-NUMBERS : goal.returns-then-behind-ge-NUMBERS
returns-then-behind-ge-NUMBERS c = (
  (λ t. absurd (false_true t)),
  (λ have.
      let memories = c.args.memories.now in
      let i = c.loop-memory.memory-index in
      let memory = c.memory-item.result in
      let test = c.loop-memory-test.true in
      let below : i < length memories = omega (arith, test) in
      let words = c.element_words.ensures.words in
      let more = c.if-behind-ge-NUMBERS.true in
      let has : HasNumbers memory = subst HasNumbers (sym c.memory-item.is) (have i memory below) in
      absurd (omega (arith, words, more, has))),
)

pub returns : goal.returns
returns c =
    let test = c.loop-memory-test.false in
    ((λ t. subst HaveNumbers (take_all c.loop-memory.memory-index c.args.memories.now (omega (arith, test))) c.loop-memory.invariant), (λ have. refl))
