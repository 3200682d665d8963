use Rattle.std.proofs.Common.{◌≡◌, ◌*◌, ◌-◌, ◌+◌, ◌≤◌, length, slice_get, Some, sym, ap, ◌∙◌, arith}
use Rattle.std.specs.Option.{option_copied}
use Rattle.part_compile.proofs.Rowed.{last_words}
use Rattle.part_compile.proofs.StateWords.{registers_alone, behind_last, none_past}
use Rattle.part_compile.proofs.counting.behind_memories.Goals as goal

pub returns-then-count-eq0 : goal.returns-then-count-eq0
returns-then-count-eq0 c = λ small.
    let alone = registers_alone c.args.net.now (let none = c.if-count-eq0.true in let count = c.len-count.ensures in omega (arith, none, count)) in
    let registers = c.len.ensures in
    omega (arith, alone, registers)

pub unreachable-requires : goal.unreachable-requires
unreachable-requires c =
    let some = c.if-count-eq0.false in
    let count = c.len-count.ensures in
    none_past c.args.net.now.memories (c.len-count.result - 1) (sym c.get.ensures.value ∙ ap option_copied c.in_default.is) (omega (arith, some, count))

pub returns : goal.returns
returns c = λ small.
    let net = c.args.net.now in
    let last = c.in-Some.last.now in
    let there : slice_get net.memories (c.len-count.result - 1) ≡ Some last = sym c.in-Some.ensures.value in
    let count = c.len-count.ensures in
    let ends : length net.memories ≤ (c.len-count.result - 1) + 1 = omega (arith, count) in
    behind_last last.word _ _ _ _ c.saturating_mul-words.result _ c.saturating_add.result _ (ap (λ n. last.depth * n) c.element_words.ensures.words) c.saturating_mul-words.ensures c.saturating_add.ensures
    (last_words net (c.len-count.result - 1) last there ends) (c.requires.said (c.len-count.result - 1) last there) (omega arith) (omega arith) small
