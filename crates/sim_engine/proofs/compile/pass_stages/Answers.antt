use Rattle.std.proofs.lemmas.Result.{err_from_is_err_and}
use Rattle.sim_engine.proofs.Given.{given_drives, driven_by, given_clocks, clocked_by, given_order, accepted_by}
use Rattle.sim_engine.proofs.compile.pass_stages.Goals as goal

pub covered-requires : goal.covered-requires
covered-requires c = c.accepted_circuits_are_well_formed.ensures c.args.bytes.now c.in_ok-fitted.fitted c.in_ok-fitted.ensures.fits

pub clocks-requires : goal.clocks-requires
clocks-requires c = c.accepted_circuits_are_well_formed.ensures c.args.bytes.now c.in_ok-fitted.fitted c.in_ok-fitted.ensures.fits

pub ordered_net-requires-clause-formed : goal.ordered_net-requires-clause-formed
ordered_net-requires-clause-formed c = c.accepted_circuits_are_well_formed.ensures c.args.bytes.now c.in_ok-fitted.fitted c.in_ok-fitted.ensures.fits

pub ordered_net-requires-clause-initialized : goal.ordered_net-requires-clause-initialized
ordered_net-requires-clause-initialized c =
    let formed = c.accepted_circuits_are_well_formed.ensures c.args.bytes.now c.in_ok-fitted.fitted c.in_ok-fitted.ensures.fits in
    (c.initialized_circuits_have_no_fault.ensures c.in_ok-fitted.fitted formed).0 c.in_ok-covered.ensures.none

pub returns-in_err-covered-clause-fault : goal.returns-in_err-covered-clause-fault
returns-in_err-covered-clause-fault c =
    let p = err_from_is_err_and c.from_residual-in_err-covered.result c.from_residual-in_err-covered.ensures.1 in
    rw (p.1, p.2) (given_drives c.args.bytes.now c.in_ok-fitted.fitted _ c.in_ok-fitted.ensures.fits c.in_err-covered.ensures.fault)

pub returns-in_err-clocks-clause-fault : goal.returns-in_err-clocks-clause-fault
returns-in_err-clocks-clause-fault c =
    let formed = c.accepted_circuits_are_well_formed.ensures c.args.bytes.now c.in_ok-fitted.fitted c.in_ok-fitted.ensures.fits in
    let initialized = (c.initialized_circuits_have_no_fault.ensures c.in_ok-fitted.fitted formed).0 c.in_ok-covered.ensures.none in
    let driven = driven_by c.args.bytes.now c.in_ok-fitted.fitted c.in_ok-fitted.ensures.fits initialized in
    let p = err_from_is_err_and c.from_residual-in_err-clocks.result c.from_residual-in_err-clocks.ensures.1 in
    rw (p.1, p.2) (given_clocks c.args.bytes.now c.in_ok-fitted.fitted _ driven c.in_err-clocks.ensures.fault)

pub returns-in_err-ordered-clause-fault : goal.returns-in_err-ordered-clause-fault
returns-in_err-ordered-clause-fault c =
    let formed = c.accepted_circuits_are_well_formed.ensures c.args.bytes.now c.in_ok-fitted.fitted c.in_ok-fitted.ensures.fits in
    let initialized = (c.initialized_circuits_have_no_fault.ensures c.in_ok-fitted.fitted formed).0 c.in_ok-covered.ensures.none in
    let driven = driven_by c.args.bytes.now c.in_ok-fitted.fitted c.in_ok-fitted.ensures.fits initialized in
    let p = err_from_is_err_and c.from_residual-in_err-ordered.result c.from_residual-in_err-ordered.ensures.1 in
    let clocked = clocked_by c.args.bytes.now c.in_ok-fitted.fitted driven c.in_ok-clocks.ensures.ok in
    rw (p.1, p.2) (given_order c.args.bytes.now c.in_ok-fitted.fitted _ clocked c.in_err-ordered.ensures.fault)

pub returns-clause-built : goal.returns-clause-built
returns-clause-built c =
    let formed = c.accepted_circuits_are_well_formed.ensures c.args.bytes.now c.in_ok-fitted.fitted c.in_ok-fitted.ensures.fits in
    let initialized = (c.initialized_circuits_have_no_fault.ensures c.in_ok-fitted.fitted formed).0 c.in_ok-covered.ensures.none in
    let driven = driven_by c.args.bytes.now c.in_ok-fitted.fitted c.in_ok-fitted.ensures.fits initialized in
    let clocked = clocked_by c.args.bytes.now c.in_ok-fitted.fitted driven c.in_ok-clocks.ensures.ok in
    record {
      accepted = accepted_by c.args.bytes.now c.in_ok-fitted.fitted clocked c.in_ok-ordered.ensures.ok.no_loop;
      ordered = c.in_ok-ordered.ensures.ok;
      inputs = c.in_ok-ports.ensures.inputs;
      watched = c.in_ok-ports.ensures.watched;
      names = c.in_ok-ports.ensures.names;
    }
