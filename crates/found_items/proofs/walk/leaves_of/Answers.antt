use Rattle.std.proofs.Common.{rules, ◌≡◌, ℕ, ◌+◌, ◌<◌, [], ◌∷◌, ◌++◌, List, map, Some, nat_eq, sym, subst, ap, arith}
use Rattle.std.specs.Prelude.{Contains}
use Rattle.std.specs.Map.{lookup}
use Rattle.std.specs.List.{AllZip, range_with_len}
use Rattle.std.proofs.lemmas.List.FromFn.{map-range_with_len_more, get_or-map-range_with_len, length-map-range_with_len}
use Rattle.fir_tree.specs.declared.print.PrintItem.{PrintItem}
use Rattle.item_lines.specs.Formats.{shows}
use Rattle.item_lines.specs.Items.{wire_name, argument_name, number_in}
use Rattle.found_items.specs.Finding.{item_texts}
use Rattle.found_items.proofs.Lists.{among_first, among_later, zip_push}
use Rattle.found_items.proofs.walk.leaves_of.Goals as goal

wire_among : (print : PrintItem) → Contains (item_texts print) (wire_name print.number)
wire_among print = among_first (wire_name print.number) (map (argument_name print.number) (range_with_len 0 (shows print.pieces)))

node_among : (print : PrintItem) (i : ℕ) → i < shows print.pieces → Contains (item_texts print) (argument_name print.number i)
node_among print i less =
    let f : ℕ → List ℕ = argument_name print.number in
    let n = shows print.pieces in
    let long = length-map-range_with_len f 0 n in
    among_later (wire_name print.number) (map f (range_with_len 0 n)) (f i) (i, omega (arith, less, long), get_or-map-range_with_len f 0 n i i (f i) less (omega arith))

pub wire_leaf-requires-clause-named : goal.wire_leaf-requires-clause-named
wire_leaf-requires-clause-named c = c.requires.named (wire_name c.args.print.now.number) (wire_among c.args.print.now)

pub wire_leaf-requires-clause-there : goal.wire_leaf-requires-clause-there
wire_leaf-requires-clause-there c = c.requires.there.number (wire_name c.args.print.now.number) (wire_among c.args.print.now)

pub wire_leaf-requires-clause-small : goal.wire_leaf-requires-clause-small
wire_leaf-requires-clause-small c = c.requires.there.small (wire_name c.args.print.now.number) (wire_among c.args.print.now)

pub node_leaf-requires-clause-small : goal.node_leaf-requires-clause-small
node_leaf-requires-clause-small c = c.requires.there.small (argument_name c.args.print.now.number c.loop-argument.argument) (node_among c.args.print.now c.loop-argument.argument (search rules))

pub node_leaf-requires-clause-named : goal.node_leaf-requires-clause-named
node_leaf-requires-clause-named c = c.requires.named (argument_name c.args.print.now.number c.loop-argument.argument) (node_among c.args.print.now c.loop-argument.argument (search rules))

pub node_leaf-requires-clause-there : goal.node_leaf-requires-clause-there
node_leaf-requires-clause-there c = c.requires.there.number (argument_name c.args.print.now.number c.loop-argument.argument) (node_among c.args.print.now c.loop-argument.argument (search rules))

pub returns : goal.returns
returns c =
    let texts = c.args.table.now.fitted.now.checked.resolved.names in
    let k = c.args.print.now.number in
    let end : c.loop-argument.argument ≡ shows c.args.print.now.pieces = search rules in
    subst (λ (n : ℕ). AllZip (λ text x. lookup (nat_eq (number_in texts text)) c.args.firsts.now.entries ≡ Some x) (wire_name k ∷ map (argument_name k) (range_with_len 0 n)) c.loop-argument.leaves) end c.loop-argument.invariant

pub loop-argument-preserved : goal.loop-argument-preserved
loop-argument-preserved c =
    let texts = c.args.table.now.fitted.now.checked.resolved.names in
    let P : List ℕ → ℕ → Type 0 = λ text x. lookup (nat_eq (number_in texts text)) c.args.firsts.now.entries ≡ Some x in
    let k = c.args.print.now.number in
    let i = c.loop-argument.argument in
    let x = c.in_ok-node_leaf.field-0 in
    let more : wire_name k ∷ map (argument_name k) (range_with_len 0 (i + 1)) ≡ (wire_name k ∷ map (argument_name k) (range_with_len 0 i)) ++ argument_name k i ∷ [] =
    ap (λ l. wire_name k ∷ l) (map-range_with_len_more (argument_name k) 0 i i (omega arith)) in
    subst (AllZip P (wire_name k ∷ map (argument_name k) (range_with_len 0 (i + 1)))) (sym c.in_ok-push-2.ensures.ok)
    (subst (λ l. AllZip P l (c.loop-argument.leaves ++ x ∷ [])) (sym more) (zip_push P (wire_name k ∷ map (argument_name k) (range_with_len 0 i)) c.loop-argument.leaves (argument_name k i) x c.loop-argument.invariant c.in_ok-node_leaf.ensures))
