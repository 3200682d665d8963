use Rattle.std.proofs.Common.{rules, ◌≡◌, length, drop, take_at, vec_len, ap, ◌∙◌}
use Rattle.worker_crew.specs.Numbers.{held}
use Rattle.worker_crew.proofs.Numbers.{held_same}
use Rattle.worker_crew.proofs.collect.drive_mine.Goals as goal

pub returns-clause-numbers : goal.returns-clause-numbers
returns-clause-numbers g c = λ k.
    let old = c.args.mine.now.items in let new = c.drive.new.workers in
    let begun : c.as_mut_slice-workers.result.now ≡ old = search rules in
    let many : length new ≡ vec_len c.args.mine.now = search rules in
    ap (held k) (take_at new (drop (length new) old) (vec_len c.args.mine.now) many) ∙ held_same k _ _ c.drive.ensures.duties ∙ ap (held k) begun
