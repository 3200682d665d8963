use Rattle.std.proofs.Common.{rules}
use Rattle.std.proofs.lemmas.List.Elements.{All-from_recursion}
use Rattle.width_rules.specs.declared.rule.Formula.{the_lemmas}
use Rattle.width_rules.specs.Formulas.{IsFormula}
use Rattle.width_rules.proofs.FormulaLemmas.{fits-operands, fits-Greatest}
use Rattle.width_solver.proofs.Replacing.{fits_more, replaces_none, replaces_itself, replaces_op, replaces_greatest, leaves_more}
use Rattle.width_solver.proofs.small.+small.Goals as goal

pub leaves_of-loop-part-init : goal.leaves_of-loop-part-init
leaves_of-loop-part-init t c = rw c.new-leaves.ensures (replaces_none c.args.small.now.count c.args.small.now.rules.items)

pub leaves_of-small_formula-requires : goal.leaves_of-small_formula-requires
leaves_of-small_formula-requires t c = (
  search (rules, the_lemmas, c.part-item.is),
  fits_more c.args.small.now.count c.loop-part.small.count c.loop-part.invariant.grows c.part-item.result
      (rw (← c.part-item.is) at (c.requires.fits c.loop-part.part-index c.part-item.result c.loop-part-test.true)),
)

pub leaves_of-loop-part-preserved : goal.leaves_of-loop-part-preserved
leaves_of-loop-part-preserved t c =
    rw c.in_ok-push.ensures.ok
    (leaves_more c.args.parts.now c.loop-part.leaves c.loop-part.part-index c.part-item.result c.in_ok-whole.whole c.in_ok-leaf.leaf _ _ _ _ _ _ _ _ c.loop-part-test.true c.part-item.is c.requires.fits
    c.loop-part.invariant c.in_ok-whole.ensures c.in_ok-leaf.ensures)

pub small_formula-leaves_of-requires : goal.small_formula-leaves_of-requires
small_formula-leaves_of-requires t c =
    let fits = rw c.in-Op.is at c.requires.fits in
    let all = All-from_recursion (IsFormula _) c.in-Op.parts (fits-operands _ c.in-Op.prim c.in-Op.kinds c.in-Op.parts c.in-Op.params fits) in
    (search (rules, the_lemmas, c.in-Op.is, c.as_slice.ensures), rw c.as_slice.ensures all)

pub small_formula-leaves_of-requires-in-Greatest : goal.small_formula-leaves_of-requires-in-Greatest
small_formula-leaves_of-requires-in-Greatest t c =
    let all = All-from_recursion (IsFormula _) c.in-Greatest.parts (fits-Greatest _ c.in-Greatest.parts (rw c.in-Greatest.is at c.requires.fits)) in
    (search (rules, the_lemmas, c.in-Greatest.is, c.as_slice-in-Greatest.ensures), rw c.as_slice-in-Greatest.ensures all)

pub small_formula-returns-in-Fixed : goal.small_formula-returns-in-Fixed
small_formula-returns-in-Fixed t c = rw c.in-Fixed.is (replaces_itself _ c.args.small.now.count c.args.small.now.rules.items (rw c.in-Fixed.is at c.requires.fits))

pub small_formula-returns-in-Var : goal.small_formula-returns-in-Var
small_formula-returns-in-Var t c = rw c.in-Var.is (replaces_itself _ c.args.small.now.count c.args.small.now.rules.items (rw c.in-Var.is at c.requires.fits))

pub small_formula-returns-in_ok-operands-in-Op : goal.small_formula-returns-in_ok-operands-in-Op
small_formula-returns-in_ok-operands-in-Op t c =
    rw (c.in-Op.is, c.in_ok-kinds-in-Op.ensures, c.in_ok-params-in-Op.ensures, c.in_ok-operands-in-Op.ensures)
    (replaces_op c.in-Op.prim c.in-Op.kinds c.in-Op.parts _ c.in-Op.params _ _ _ _ (rw c.in-Op.is at c.requires.fits) (rw c.as_slice.ensures at c.in_ok-leaves-in-Op.ensures))

pub small_formula-returns-in_ok-operands-in-Greatest : goal.small_formula-returns-in_ok-operands-in-Greatest
small_formula-returns-in_ok-operands-in-Greatest t c =
    rw (c.in-Greatest.is, c.in_ok-operands-in-Greatest.ensures) (replaces_greatest c.in-Greatest.parts _ _ _ _ _ (rw c.as_slice-in-Greatest.ensures at c.in_ok-leaves-in-Greatest.ensures))
