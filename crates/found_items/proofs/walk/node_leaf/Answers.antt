use Rattle.std.proofs.Common.{◌≡◌, ◌<◌, ℕ, List, Some, nat_eq, sym, subst, ◌∙◌}
use Rattle.std.specs.Map.{lookup}
use Rattle.item_lines.specs.Items.{argument_name, number_in}
use Rattle.item_lines.proofs.Nodes.{argument_text}
use Rattle.found_items.specs.Finding.{Has}
use Rattle.found_items.proofs.walk.node_leaf.Goals as goal

pub leaf_of-requires-clause-named : goal.leaf_of-requires-clause-named
leaf_of-requires-clause-named c =
    let text : c.as_bytes.result.now ≡ argument_name c.args.item c.args.argument = argument_text c.args.item c.args.argument c.as_bytes.result.now (c.as_bytes.ensures.value ∙ c.in_ok-node.ensures.ok) in
    subst (Has c.args.table.now.fitted.now.checked.resolved.names) (sym text) c.requires.named

pub leaf_of-requires-clause-small : goal.leaf_of-requires-clause-small
leaf_of-requires-clause-small c =
    let text : c.as_bytes.result.now ≡ argument_name c.args.item c.args.argument = argument_text c.args.item c.args.argument c.as_bytes.result.now (c.as_bytes.ensures.value ∙ c.in_ok-node.ensures.ok) in
    subst (λ (t : List ℕ). number_in c.args.table.now.fitted.now.checked.resolved.names t < 4294967296) (sym text) c.requires.small

pub leaf_of-requires-clause-there : goal.leaf_of-requires-clause-there
leaf_of-requires-clause-there c =
    let text : c.as_bytes.result.now ≡ argument_name c.args.item c.args.argument = argument_text c.args.item c.args.argument c.as_bytes.result.now (c.as_bytes.ensures.value ∙ c.in_ok-node.ensures.ok) in
    subst (λ (t : List ℕ). (x : ℕ) × (lookup (nat_eq (number_in c.args.table.now.fitted.now.checked.resolved.names t)) c.args.firsts.now.entries ≡ Some x)) (sym text) c.requires.there
