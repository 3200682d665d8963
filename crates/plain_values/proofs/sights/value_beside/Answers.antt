use Rattle.std.proofs.Common.{◌≡◌, ◌+◌, map, drop, Some, sym, ap, ◌∙◌, arith, if◌then◌else◌, true, false}
use Rattle.std.proofs.lemmas.Grind.{common_steps}
use Rattle.fir_types.specs.declared.leaf.TypeLeaf.{TypeLeaf}
use Rattle.fir_meaning.specs.Drives.{same_way}
use Rattle.drive_check.specs.Keys.{step_of}
use Rattle.plain_values.specs.Sites.{beside_leaf}
use Rattle.plain_values.proofs.Looking.{beside_more, beside_next, beside_past}
use Rattle.plain_values.proofs.sights.value_beside.Goals as goal

pub returns-then-is_along : goal.returns-then-is_along
returns-then-is_along c =
    let way = map step_of c.args.way.now in
    let leaves = c.args.leaves.now in
    let vs = c.args.values.now in
    let at = c.loop-at.at in
    let x = c.index-leaves-at.result in
    let v = c.index-values-at.result in
    let test : same_way x.path way ≡ true = ap (λ (l : TypeLeaf). same_way l.path way) c.index-leaves-at.is ∙ ap (λ p. same_way p way) (sym c.as_slice.ensures) ∙ (sym c.is_along.ensures ∙ c.if-is_along.true) in
    let found : beside_leaf way leaves vs ≡ Some v =
    c.loop-at.invariant ∙ (beside_more way leaves vs at x v (omega arith) (omega arith) c.index-leaves-at.is c.index-values-at.is
    ∙ ap (λ b. if b then Some v else beside_leaf way (drop (at + 1) leaves) (drop (at + 1) vs)) test) in
    grind (arith, common_steps, found, c.index-values-at.is)

pub loop-at-preserved : goal.loop-at-preserved
loop-at-preserved c =
    let way = map step_of c.args.way.now in
    let x = c.index-leaves-at.result in
    let test : same_way x.path way ≡ false = ap (λ (l : TypeLeaf). same_way l.path way) c.index-leaves-at.is ∙ ap (λ p. same_way p way) (sym c.as_slice.ensures) ∙ (sym c.is_along.ensures ∙ c.if-is_along.false) in
    c.loop-at.invariant ∙ beside_next way c.args.leaves.now c.args.values.now c.loop-at.at x (omega arith) (omega arith) c.index-leaves-at.is test

pub returns : goal.returns
returns c = sym (c.loop-at.invariant ∙ beside_past (map step_of c.args.way.now) c.args.leaves.now c.args.values.now c.loop-at.at (omega arith))
