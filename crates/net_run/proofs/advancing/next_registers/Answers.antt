use Rattle.std.proofs.Common.{◌≡◌, ◌<◌, length, slice_get, Some, sym, ap, ◌∙◌, arith}
use Rattle.std.proofs.lemmas.Option.{slice_get-get_or}
use Rattle.net_run.specs.Seeing.{seen}
use Rattle.net_run.specs.Advancing.{next_value}
use Rattle.net_run.proofs.Nexts.{next_more, driver_fine, reset_fine, init_fine}
use Rattle.net_run.proofs.advancing.next_registers.Goals as goal

pub next_held-requires-clause-driver : goal.next_held-requires-clause-driver
next_held-requires-clause-driver c =
    let net = c.args.cycle.now.net.now in
    let xs = c.as_slice-registers.result.now in
    let i = c.loop-number.number in
    let register = c.index-registers-number.result in
    let test = c.loop-number-test.true in
    let below : i < length xs = omega (arith, test) in
    let there : slice_get net.registers i ≡ Some register = ap (λ l. slice_get l i) (sym c.as_slice-registers.ensures) ∙ (slice_get-get_or xs i register below ∙ ap Some (sym c.index-registers-number.is)) in
    driver_fine net c.requires.net i register there

pub next_held-requires-clause-reset : goal.next_held-requires-clause-reset
next_held-requires-clause-reset c =
    let net = c.args.cycle.now.net.now in
    let xs = c.as_slice-registers.result.now in
    let i = c.loop-number.number in
    let register = c.index-registers-number.result in
    let test = c.loop-number-test.true in
    let below : i < length xs = omega (arith, test) in
    let there : slice_get net.registers i ≡ Some register = ap (λ l. slice_get l i) (sym c.as_slice-registers.ensures) ∙ (slice_get-get_or xs i register below ∙ ap Some (sym c.index-registers-number.is)) in
    reset_fine net c.requires.net i register there

pub next_held-requires-clause-init : goal.next_held-requires-clause-init
next_held-requires-clause-init c =
    let net = c.args.cycle.now.net.now in
    let xs = c.as_slice-registers.result.now in
    let i = c.loop-number.number in
    let register = c.index-registers-number.result in
    let test = c.loop-number-test.true in
    let below : i < length xs = omega (arith, test) in
    let there : slice_get net.registers i ≡ Some register = ap (λ l. slice_get l i) (sym c.as_slice-registers.ensures) ∙ (slice_get-get_or xs i register below ∙ ap Some (sym c.index-registers-number.is)) in
    init_fine net c.requires.net i register there

pub loop-number-preserved : goal.loop-number-preserved
loop-number-preserved c =
    let net = c.args.cycle.now.net.now in
    let instant = seen net c.args.cycle.now.values.now c.args.cycle.now.contents.now in
    let xs = c.as_slice-registers.result.now in
    let i = c.loop-number.number in
    let register = c.index-registers-number.result in
    let test = c.loop-number-test.true in
    let below : i < length xs = omega (arith, test) in
    let there : slice_get net.registers i ≡ Some register = ap (λ l. slice_get l i) (sym c.as_slice-registers.ensures) ∙ (slice_get-get_or xs i register below ∙ ap Some (sym c.index-registers-number.is)) in
    next_more net instant c.args.held.now i register c.loop-number.values.items c.push.new.self.items c.next_held.result c.loop-number.invariant there
    (c.next_held.ensures ∙ ap (λ v. next_value net instant register v) c.held_at.ensures) c.in_ok-push.ensures.items
