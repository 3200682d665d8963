use Rattle.std.proofs.Common.{◌≡◌, ◌<◌, [], length, ap, ◌∙◌, arith}
use Rattle.std.proofs.lemmas.Grind.{common_steps}
use Rattle.width_solver.proofs.Standing.{stands_first, stands_last, falls}
use Rattle.width_solver.proofs.solving.least_widths.Goals as goal

pub rounds-init : goal.rounds-init
rounds-init c =
    rw (c.in_ok-widths.ensures.items_if_clones_equal (λ w e. e), c.in_ok-waits.ensures.items_if_clones_equal (λ b e. e))
    (stands_first c.args.rules.now c.args.count _ c.in_ok-pending.ensures.within c.in_ok-pending.ensures.all)

pub rounds-smaller : goal.rounds-smaller
rounds-smaller c =
    let counted : length c.as_slice-readers.result.now ≡ c.args.count = ap length c.as_slice-readers.ensures.value ∙ c.in_ok-readers.ensures.counted in
    let some : 0 < length c.rounds.pending.items = grind (arith, common_steps) in
    falls c.args.count _ _ _ _ (rw counted at c.in_ok-pending-2.ensures.stands).assignment some c.in_ok-pending-2.ensures.rises

pub returns : goal.returns
returns c =
    let none : c.rounds.pending.items ≡ [] = grind (arith, common_steps) in
    stands_last _ _ _ _ _ none c.rounds.invariant
