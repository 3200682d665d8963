use Rattle.std.proofs.Common.{subst, sym}
use Rattle.std.proofs.lemmas.Result.{err_from_is_err_and}
use Rattle.sim_engine.specs.Stages.{IsNamed}
use Rattle.sim_engine.proofs.Given.{given_names, named_by, given_types, typed_by, given_size, given_widths, fitted_by, measured_by}
use Rattle.sim_engine.proofs.fitting.fit_text.Goals as goal

pub returns-in_err-scope-clause-fault : goal.returns-in_err-scope-clause-fault
returns-in_err-scope-clause-fault c =
    let p = err_from_is_err_and c.from_residual-in_err-scope.result c.from_residual-in_err-scope.ensures.1 in
    rw (p.1, p.2) (given_names c.args.bytes.now c.in_ok-spelled.spelled _ c.in_ok-spelled.ensures.parsed c.in_err-scope.ensures.fault)

pub returns-in_err-types-clause-fault : goal.returns-in_err-types-clause-fault
returns-in_err-types-clause-fault c =
    let text = c.args.bytes.now in
    let named = subst (IsNamed text) (sym c.in_ok-circuit.ensures) (named_by text c.in_ok-spelled.spelled c.in_ok-spelled.ensures.parsed c.in_ok-scope.ensures.none) in
    let p = err_from_is_err_and c.from_residual-in_err-types.result c.from_residual-in_err-types.ensures.1 in
    rw (p.1, p.2) (given_types text c.in_ok-circuit.circuit c.in_ok-resolved.resolved _ named c.in_ok-resolved.ensures (rw c.get.ensures at c.in_err-types.ensures.fault))

pub returns-in_err-flat_measure-clause-fault : goal.returns-in_err-flat_measure-clause-fault
returns-in_err-flat_measure-clause-fault c =
    let text = c.args.bytes.now in
    let named = subst (IsNamed text) (sym c.in_ok-circuit.ensures) (named_by text c.in_ok-spelled.spelled c.in_ok-spelled.ensures.parsed c.in_ok-scope.ensures.none) in
    let typed = typed_by text c.in_ok-circuit.circuit c.in_ok-resolved.resolved named c.in_ok-resolved.ensures (rw c.get.ensures at c.in_ok-types.ensures.none) in
    let p = err_from_is_err_and c.from_residual-in_err-flat_measure.result c.from_residual-in_err-flat_measure.ensures.1 in
    rw (p.1, p.2) (given_size text c.in_ok-circuit.circuit c.in_ok-resolved.resolved _ typed c.in_err-flat_measure.ensures.fault)

pub returns-in_err-fitted-clause-fault : goal.returns-in_err-fitted-clause-fault
returns-in_err-fitted-clause-fault c =
    let text = c.args.bytes.now in
    let named = subst (IsNamed text) (sym c.in_ok-circuit.ensures) (named_by text c.in_ok-spelled.spelled c.in_ok-spelled.ensures.parsed c.in_ok-scope.ensures.none) in
    let typed = typed_by text c.in_ok-circuit.circuit c.in_ok-resolved.resolved named c.in_ok-resolved.ensures (rw c.get.ensures at c.in_ok-types.ensures.none) in
    let measured = measured_by text c.in_ok-spelled.spelled c.in_ok-circuit.circuit c.in_ok-resolved.resolved c.in_ok-scope.scope c.in_ok-types.types c.in_ok-circuit.ensures typed c.in_ok-flat_measure.ensures.none
    c.in_ok-scope.ensures.ok (rw c.get.ensures at c.in_ok-types.ensures.ok) in
    let p = err_from_is_err_and c.from_residual-in_err-fitted.result c.from_residual-in_err-fitted.ensures.1 in
    rw (p.1, p.2) (given_widths text _ _ measured c.in_err-fitted.ensures.fault)

pub returns-clause-fits : goal.returns-clause-fits
returns-clause-fits c =
    let text = c.args.bytes.now in
    let named = subst (IsNamed text) (sym c.in_ok-circuit.ensures) (named_by text c.in_ok-spelled.spelled c.in_ok-spelled.ensures.parsed c.in_ok-scope.ensures.none) in
    let typed = typed_by text c.in_ok-circuit.circuit c.in_ok-resolved.resolved named c.in_ok-resolved.ensures (rw c.get.ensures at c.in_ok-types.ensures.none) in
    let measured = measured_by text c.in_ok-spelled.spelled c.in_ok-circuit.circuit c.in_ok-resolved.resolved c.in_ok-scope.scope c.in_ok-types.types c.in_ok-circuit.ensures typed c.in_ok-flat_measure.ensures.none
    c.in_ok-scope.ensures.ok (rw c.get.ensures at c.in_ok-types.ensures.ok) in
    fitted_by text _ c.in_ok-fitted.fitted measured c.in_ok-fitted.ensures.ok
