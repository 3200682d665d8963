use Rattle.std.proofs.Common.{length, true, false, ap, ap₂, ◌∙◌}
use Rattle.net_run.specs.Capturing.{memories_taken, all_taken}
use Rattle.net_run.proofs.Advances.{advanced}
use Rattle.net_run.proofs.advancing.advance.Goals as goal

pub returns : goal.returns
returns c =
    let net = c.args.net.now in
    let kept = c.args.kept in
    let values = c.args.values.now in
    let old = c.as_slice-3.ensures ∙ (c.in_ok-old.ensures ∙ ap (λ cs. memories_taken false net.memories values cs (length net.memories)) c.as_slice.ensures) in
    let new = c.as_slice-4.ensures ∙ (c.in_ok-new.ensures ∙ ap (λ cs. memories_taken true net.memories values cs (length net.memories)) c.as_slice-2.ensures) in
    λ s k. advanced net s kept k c.requires.net values c.requires.seen c.in_ok-registers.registers c.in_ok-captured.captured c.in_ok-contents.contents c.in_ok-registers.ensures.counted
    (c.in_ok-registers.ensures.state s k) c.in_ok-contents.ensures (c.in_ok-captured.ensures ∙ ap₂ (λ o n. all_taken o n (length n)) old new)
