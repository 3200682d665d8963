use Rattle.std.proofs.Common.{◌≡◌, true, false, map, length, sym, ap, ◌∙◌, arith}
use Rattle.std.proofs.lemmas.Grind.{common_steps}
use Rattle.std.proofs.lemmas.List.{length-map}
use Rattle.fir_meaning.specs.Components.{Leaf}
use Rattle.fir_meaning.specs.Drives.{same_leaf}
use Rattle.drive_check.specs.Keys.{leaf_of_key}
use Rattle.plain_cycle.specs.Firsts.{integer_beside_it}
use Rattle.plain_cycle.proofs.Firsts.{first_here, first_later, first_none, mapped_there}
use Rattle.plain_cycle.proofs.finding.given.Goals as goal

pub returns-then-is_same : goal.returns-then-is_same
returns-then-is_same c =
    let test = λ (x : Leaf). same_leaf x (leaf_of_key c.args.leaf.now) in
    let x = c.index-inputs-at.result in
    let keys = c.args.inputs.now in
    let many : length (map leaf_of_key keys) ≡ length keys = length-map keys leaf_of_key in
    let met : test (leaf_of_key x) ≡ true = grind (arith, common_steps, c.is_same.ensures, c.if-is_same.true, c.index-inputs-at.is) in
    sym (ap integer_beside_it
    (first_here test (map leaf_of_key keys) c.args.row.now c.loop-at.at (leaf_of_key x) c.index-row-at.result (omega (arith, many)) (omega arith) (mapped_there leaf_of_key keys c.loop-at.at x (omega arith) c.index-inputs-at.is)
    c.index-row-at.is met c.loop-at.invariant))

pub loop-at-preserved : goal.loop-at-preserved
loop-at-preserved c =
    let test = λ (x : Leaf). same_leaf x (leaf_of_key c.args.leaf.now) in
    let x = c.index-inputs-at.result in
    let keys = c.args.inputs.now in
    let many : length (map leaf_of_key keys) ≡ length keys = length-map keys leaf_of_key in
    let met : test (leaf_of_key x) ≡ false = grind (arith, common_steps, c.is_same.ensures, c.if-is_same.false, c.index-inputs-at.is) in
    first_later test (map leaf_of_key keys) c.args.row.now c.loop-at.at (leaf_of_key x) (omega (arith, many)) (omega arith) (mapped_there leaf_of_key keys c.loop-at.at x (omega arith) c.index-inputs-at.is) met c.loop-at.invariant

pub returns : goal.returns
returns c =
    let keys = c.args.inputs.now in
    let many : length (map leaf_of_key keys) ≡ length keys = length-map keys leaf_of_key in
    c.nothing.ensures ∙ sym (ap integer_beside_it (first_none (λ (x : Leaf). same_leaf x (leaf_of_key c.args.leaf.now)) (map leaf_of_key keys) c.args.row.now c.loop-at.at (omega (arith, many)) c.loop-at.invariant))
