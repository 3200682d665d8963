use Rattle.std.proofs.Common.{◌≡◌, ◌≤◌, Some, slice_get, length, sym, ap, ◌∙◌, arith}
use Rattle.ground_net.specs.declared.net.NetMemory.{NetMemory}
use Rattle.ground_net.specs.Words.{memory_words}
use Rattle.ground_net.specs.Cycles.{captures}
use Rattle.partition_code.proofs.Parts.{memory_part}
use Rattle.part_compile.proofs.Owning.{none_owned, one_owned, memory_owned, reads_long}
use Rattle.part_compile.proofs.spans.own_memory.Goals as goal

some_same : {A : Type 0} {x y : A} → Some x ≡ Some y → x ≡ y
some_same e = cc

pub memory_words-requires : goal.memory_words-requires
memory_words-requires c =
    let part = memory_part c.args.net.now c.args.memory c.in-Some.it.now (sym c.in-Some.ensures.value) in
    let few = c.requires.few in
    omega (arith, part, few)

pub loop-number-init : goal.loop-number-init
loop-number-init c = λ it there.
    let same : c.in-Some.it.now ≡ it = some_same (c.in-Some.ensures.value ∙ there) in
    none_owned c.args.net.now c.args.memory it (record { first = c.in-Some.it.now.word; count = c.memory_words.result }) c.args.owned.now c.push.new.self (ap (λ (m : NetMemory). m.word) same)
    (c.memory_words.ensures ∙ ap memory_words same) c.in_ok-push.ensures.ok

pub loop-number-preserved : goal.loop-number-preserved
loop-number-preserved c = λ it there.
    one_owned c.args.net.now c.args.memory it c.loop-number.number c.args.owned.now c.loop-number.owned c.own_read.new.owned (c.loop-number.invariant it there) c.in_ok-own_read.ensures

pub returns : goal.returns
returns c =
    let it = c.in-Some.it.now in
    let there : slice_get c.args.net.now.memories c.args.memory ≡ Some it = sym c.in-Some.ensures.value in
    let test = c.loop-number-test.false in
    let all = reads_long c.args.net.now c.args.reads.now c.requires.reads in
    memory_owned c.args.net.now c.args.memory it c.loop-number.number c.args.owned.now c.loop-number.owned there (c.requires.said c.args.memory it there) (omega (arith, test, all)) (c.loop-number.invariant it there)
