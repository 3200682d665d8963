use Rattle.std.proofs.Common.{◌≡◌, ◌-◌, ◌≤◌, ◌+◌, length, slice_get, Some, sym, arith}
use Rattle.partition_code.proofs.Parts.{memory_part}
use Rattle.part_compile.proofs.Rowed.{last_words}
use Rattle.part_compile.proofs.words.behind_memories.Goals as goal

pub memory_words-requires : goal.memory_words-requires
memory_words-requires c =
    let net = c.args.net.now in
    let last = c.in-Some.last.now in
    let there : slice_get net.memories (c.len-count.result - 1) ≡ Some last = sym c.in-Some.ensures.value in
    let part = memory_part net (c.len-count.result - 1) last there in
    let few = c.requires.few in
    omega (arith, part, few)

pub overflow_add-result : goal.overflow_add-result
overflow_add-result c =
    let net = c.args.net.now in
    let last = c.in-Some.last.now in
    let there : slice_get net.memories (c.len-count.result - 1) ≡ Some last = sym c.in-Some.ensures.value in
    let part = memory_part net (c.len-count.result - 1) last there in
    let few = c.requires.few in
    let said = c.requires.said (c.len-count.result - 1) last there in
    let words = c.memory_words.ensures in
    omega (arith, part, few, said, words)

pub returns : goal.returns
returns c =
    let net = c.args.net.now in
    let last = c.in-Some.last.now in
    let there : slice_get net.memories (c.len-count.result - 1) ≡ Some last = sym c.in-Some.ensures.value in
    let count = c.len-count.ensures in
    let ends : length net.memories ≤ (c.len-count.result - 1) + 1 = omega (arith, count) in
    let whole = last_words net (c.len-count.result - 1) last there ends in
    let said = c.requires.said (c.len-count.result - 1) last there in
    let words = c.memory_words.ensures in
    omega (arith, whole, said, words)
