use Rattle.std.proofs.Common.{rules, arith}
use Rattle.std.proofs.lemmas.Grind.{common_steps}
use Rattle.std.proofs.lemmas.List.Elements.{All-from_recursion}
use Rattle.width_rules.specs.declared.rule.Formula.{the_lemmas}
use Rattle.width_rules.specs.Formulas.{IsFormula}
use Rattle.width_rules.proofs.FormulaLemmas.{width-Op, width-Greatest, fits-Var, fits-Op, fits-operands, fits-Greatest}
use Rattle.width_solver.proofs.Greatest.{greatest_more}
use Rattle.width_solver.proofs.formula.+width.Goals as goal

pub width_of_formula-bounds-widths-variable : goal.width_of_formula-bounds-widths-variable
width_of_formula-bounds-widths-variable t c = fits-Var _ _ (rw c.in-Var.is at c.requires.fits)

pub width_of_formula-width_of_operation-requires : goal.width_of_formula-width_of_operation-requires
width_of_formula-width_of_operation-requires t c =
    let fits = rw c.in-Op.is at c.requires.fits in
    let op = fits-Op _ c.in-Op.prim c.in-Op.kinds c.in-Op.parts c.in-Op.params fits in
    let all = All-from_recursion (IsFormula _) c.in-Op.parts (fits-operands _ c.in-Op.prim c.in-Op.kinds c.in-Op.parts c.in-Op.params fits) in
    (search (rules, the_lemmas, c.in-Op.is, c.as_slice-in-Op.ensures), (rw c.as_slice.ensures op.0, (rw c.as_slice-in-Op.ensures op.1, (rw c.as_slice-in-Op-2.ensures op.2, (rw c.as_slice.ensures op.3, rw c.as_slice-in-Op.ensures all)))))

pub width_of_formula-greatest_of-requires : goal.width_of_formula-greatest_of-requires
width_of_formula-greatest_of-requires t c =
    let all = All-from_recursion (IsFormula _) c.in-Greatest.parts (fits-Greatest _ c.in-Greatest.parts (rw c.in-Greatest.is at c.requires.fits)) in
    (search (rules, the_lemmas, c.in-Greatest.is, c.as_slice-in-Greatest.ensures), rw c.as_slice-in-Greatest.ensures all)

pub width_of_formula-returns-in-Op : goal.width_of_formula-returns-in-Op
width_of_formula-returns-in-Op t c =
    rw (c.in-Op.is, width-Op c.in-Op.prim c.in-Op.kinds c.in-Op.parts c.in-Op.params _)
    (rw (c.as_slice.ensures, c.as_slice-in-Op.ensures, c.as_slice-in-Op-2.ensures) at c.width_of_operation.ensures)

pub width_of_formula-returns-in-Greatest : goal.width_of_formula-returns-in-Greatest
width_of_formula-returns-in-Greatest t c = grind (arith, common_steps, c.in-Greatest.is, width-Greatest)

pub greatest_of-loop-part-preserved : goal.greatest_of-loop-part-preserved
greatest_of-loop-part-preserved t c =
    rw (greatest_more c.args.widths.now c.args.parts.now _ _ c.loop-part-test.true c.part-item.is, ← c.loop-part.invariant)
    (rw c.width_of_formula.ensures at c.wider-most.ensures)
