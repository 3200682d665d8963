use Rattle.std.proofs.Common.{◌<◌, ◌≤◌, length, slice_index_or, option_map, sym, subst, ap, ap₂, ◌∙◌, arith}
use Rattle.ground_net.specs.Grounds.{value}
use Rattle.ground_net.specs.Reads.{driver_of}
use Rattle.net_run.specs.Seeing.{seen}
use Rattle.net_run.specs.Keeping.{before_all, put_driven}
use Rattle.net_run.proofs.Steps.{IsDone, within, assigned, begins, settled}
use Rattle.net_run.proofs.settling.settle.Goals as goal

pub loop-leaf-init : goal.loop-leaf-init
loop-leaf-init c =
    let net = c.args.ordered.now.net in
    let kept = c.args.kept.now in
    let inputs = c.args.inputs.now in
    let sequence = c.args.ordered.now.sequence in
    subst (λ vs. IsDone net kept.contents sequence (before_all net kept inputs) vs 0) (sym c.in_ok-values.ensures)
    (begins net c.requires.kept.0 kept c.requires.kept.1 c.requires.net c.requires.inputs.0 inputs c.requires.inputs.1 sequence)

pub assign-requires-clause-long : goal.assign-requires-clause-long
assign-requires-clause-long c =
    let net = c.args.ordered.now.net in
    let kept = c.args.kept.now in
    let inputs = c.args.inputs.now in
    let sequence = c.args.ordered.now.sequence in
    let k = c.loop-leaf.leaf-index in
    let long = ap length c.as_slice-leaf-items.ensures in
    let test = c.loop-leaf-test.true in
    let below : k < length sequence = omega (arith, long, test) in
    subst (λ xs. slice_index_or xs k 0 < length c.loop-leaf.values.items) (sym c.as_slice-leaf-items.ensures)
    (within net kept.contents sequence (before_all net kept inputs) c.loop-leaf.values.items k c.requires.net c.requires.order below c.loop-leaf.invariant)

pub loop-leaf-preserved : goal.loop-leaf-preserved
loop-leaf-preserved c =
    let net = c.args.ordered.now.net in
    let kept = c.args.kept.now in
    let inputs = c.args.inputs.now in
    let sequence = c.args.ordered.now.sequence in
    let items = c.loop-leaf.values.items in
    let k = c.loop-leaf.leaf-index in
    let long = ap length c.as_slice-leaf-items.ensures in
    let test = c.loop-leaf-test.true in
    let below : k < length sequence = omega (arith, long, test) in
    assigned net kept.contents sequence (before_all net kept inputs) items k c.requires.net c.requires.order below c.loop-leaf.invariant c.assign.new.values.items
    (c.assign.ensures
    ∙ ap₂ (λ cs xs. put_driven (option_map (λ driver. value driver (seen net items cs)) (driver_of net (slice_index_or xs k 0))) (slice_index_or xs k 0) items) c.as_slice-contents.ensures c.as_slice-leaf-items.ensures)

pub returns-clause-settled : goal.returns-clause-settled
returns-clause-settled c =
    let net = c.args.ordered.now.net in
    let kept = c.args.kept.now in
    let inputs = c.args.inputs.now in
    let sequence = c.args.ordered.now.sequence in
    let long = ap length c.as_slice-leaf-items.ensures in
    let test = c.loop-leaf-test.false in
    let all : length sequence ≤ c.loop-leaf.leaf-index = omega (arith, long, test) in
    λ s given k i. settled net s kept k c.requires.net given inputs i sequence c.requires.order c.loop-leaf.values.items c.loop-leaf.leaf-index all c.loop-leaf.invariant
