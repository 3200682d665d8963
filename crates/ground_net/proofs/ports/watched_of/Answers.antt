use Rattle.std.proofs.Common.{ℕ, Option, [], ◌++◌, sym, ap, ◌∙◌, slice_get}
use Rattle.std.specs.List.{cons_option}
use Rattle.ground_net.specs.Watching.{is_shown, told_where}
use Rattle.ground_net.specs.declared.net.PortLeaf.{PortLeaf}
use Rattle.ground_net.proofs.Numbering.{filter_map_more}
use Rattle.ground_net.proofs.ports.watched_of.Goals as goal

pub loop-number-preserved : goal.loop-number-preserved
loop-number-preserved c =
    let h : ℕ → Option PortLeaf = (λ x. told_where is_shown x (slice_get c.args.net.now.leaves x)) in
    c.in_ok-push_watched.ensures ∙ (ap (λ xs. xs ++ cons_option (h c.loop-number.number) []) c.loop-number.invariant ∙ sym (filter_map_more h c.loop-number.number))
