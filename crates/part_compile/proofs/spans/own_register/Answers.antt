use Rattle.std.proofs.Common.{◌≡◌, ◌+◌, ◌<◌, length, slice_index, ap, ◌∙◌, arith}
use Rattle.part_compile.proofs.Owning.{register_rises, register_span}
use Rattle.part_compile.proofs.spans.own_register.Goals as goal

pub overflow_sub-behind : goal.overflow_sub-behind
overflow_sub-behind c =
    let net = c.args.net.now in
    let n = c.args.register in
    let lt = c.requires.within in
    register_rises net n _ _ lt (ap (λ l. slice_index l n) c.as_slice.ensures ∙ c.requires.words.registers n (omega (arith, lt)))
    (ap (λ l. slice_index l (n + 1)) c.as_slice-2.ensures ∙ c.requires.words.registers (n + 1) (omega (arith, lt)))

pub returns : goal.returns
returns c =
    let net = c.args.net.now in
    let n = c.args.register in
    let lt = c.requires.within in
    register_span net n _ _ c.args.owned.now c.push.new.self lt (ap (λ l. slice_index l n) c.as_slice.ensures ∙ c.requires.words.registers n (omega (arith, lt)))
    (ap (λ l. slice_index l (n + 1)) c.as_slice-2.ensures ∙ c.requires.words.registers (n + 1) (omega (arith, lt))) c.in_ok-push.ensures.ok
