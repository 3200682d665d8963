use Rattle.std.proofs.Common.{◌≡◌, ◌+◌, ◌<◌, length, slice_index, ap, ◌∙◌, arith}
use Rattle.std.proofs.lemmas.Option.{slice_get_within}
use Rattle.ground_net.specs.Cycles.{captures}
use Rattle.part_compile.proofs.Owning.{captured_rises, read_apart, read_here, read_span, reads_long}
use Rattle.part_compile.proofs.spans.own_read.Goals as goal

pub overflow_sub-behind : goal.overflow_sub-behind
overflow_sub-behind c =
    let net = c.args.net.now in
    let n = c.args.numbers.1 in
    let within = c.requires.within in
    let long = reads_long net c.args.reads.now c.requires.reads in
    let lt : n < length (captures net) = omega (arith, within, long) in
    captured_rises net n _ _ lt (ap (λ l. slice_index l n) c.as_slice.ensures ∙ c.requires.words.captured n (omega (arith, lt)))
    (ap (λ l. slice_index l (n + 1)) c.as_slice-2.ensures ∙ c.requires.words.captured (n + 1) (omega (arith, lt)))

pub returns-then-read-memory : goal.returns-then-read-memory
returns-then-read-memory c = read_apart c.args.net.now c.args.reads.now c.args.numbers.0 c.args.numbers.1 c.args.owned.now c.requires.reads c.requires.within c.if-read-memory.true

pub returns : goal.returns
returns c =
    let net = c.args.net.now in
    let n = c.args.numbers.1 in
    let r = read_here net c.args.reads.now c.args.numbers.0 n c.requires.reads c.requires.within c.if-read-memory.false in
    let lt = slice_get_within (captures net) n r.0 r.1 in
    read_span net c.args.numbers.0 n _ _ r.0 c.args.owned.now c.push.new.self r.1 r.2
    (ap (λ l. slice_index l n) c.as_slice.ensures ∙ c.requires.words.captured n (omega (arith, lt)))
    (ap (λ l. slice_index l (n + 1)) c.as_slice-2.ensures ∙ c.requires.words.captured (n + 1) (omega (arith, lt))) c.in_ok-push.ensures.ok
