use Rattle.std.proofs.Common.{ℕ, List, Option, [], ◌++◌, sym, ap, ◌∙◌, slice_get}
use Rattle.std.specs.List.{cons_option}
use Rattle.std.specs.Prelude.{option_map}
use Rattle.ground_net.proofs.Numbering.{filter_map_more}
use Rattle.ground_net.proofs.ports.names_of.Goals as goal

pub loop-number-preserved : goal.loop-number-preserved
loop-number-preserved c =
    let h : ℕ → Option (List ℕ) = (λ x. option_map (λ leaf. leaf.name) (slice_get c.args.net.now.leaves x)) in
    c.in_ok-push_name.ensures ∙ (ap (λ xs. xs ++ cons_option (h c.loop-number.number) []) c.loop-number.invariant ∙ sym (filter_map_more h c.loop-number.number))
