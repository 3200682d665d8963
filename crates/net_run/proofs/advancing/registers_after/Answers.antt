use Rattle.std.proofs.Common.{length, subst}
use Rattle.net_run.specs.Seeing.{seen}
use Rattle.net_run.specs.Advancing.{AreNext}
use Rattle.net_run.proofs.Nexts.{registers_next}
use Rattle.net_run.proofs.advancing.registers_after.Goals as goal

pub returns-clause-state : goal.returns-clause-state
returns-clause-state c =
    let net = c.args.net.now in
    let kept = c.args.kept.now in
    let values = c.args.values.now in
    let registers = c.in_ok-registers.registers in
    λ s k. registers_next net s kept k c.requires.net values c.requires.seen registers
    (subst (λ held. AreNext net (seen net values kept.contents) held (length net.registers) registers) c.as_slice-held.ensures
    (subst (λ contents. AreNext net (seen net values contents) c.as_slice-held.result.now (length net.registers) registers) c.as_slice-contents.ensures c.in_ok-registers.ensures))
