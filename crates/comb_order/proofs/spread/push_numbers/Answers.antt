use Rattle.std.proofs.Common.{◌++◌, ap, ◌∙◌}
use Rattle.comb_order.specs.Spreads.{assignments_among}
use Rattle.comb_order.proofs.Making.{ok_then, tells_leaves}
use Rattle.comb_order.proofs.spread.push_numbers.Goals as goal

pub returns-in_ok-push_to-in-None : goal.returns-in_ok-push_to-in-None
returns-in_ok-push_to-in-None c = ok_then c.push_leaves.result c.push_leaves.ensures
    (λ e. tells_leaves c.args.leaves.now c.args.spread.now c.args.numbers.now c.args.row.now c.push_leaves.new.row c.requires
    (e ∙ ap (λ s. c.args.row.now ++ assignments_among c.args.leaves.now s) (c.as_slice.ensures.value ∙ (c.in_ok-push_to-in-None.ensures ∙ ap (λ s. s ++ c.args.numbers.now) c.new-each.ensures.items))))
