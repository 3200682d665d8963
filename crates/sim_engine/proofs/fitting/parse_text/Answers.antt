use Rattle.std.proofs.lemmas.Result.{err_from_is_err_and}
use Rattle.sim_engine.proofs.Given.{given_tokens, given_layout, laid_by, given_grammar, parsed_by}
use Rattle.sim_engine.proofs.fitting.parse_text.Goals as goal

pub returns-in_err-tokens-clause-fault : goal.returns-in_err-tokens-clause-fault
returns-in_err-tokens-clause-fault c =
    let p = err_from_is_err_and c.from_residual.result c.from_residual.ensures.1 in rw (p.1, p.2) (given_tokens c.args.bytes.now _ c.in_err-tokens.ensures.fault)

pub returns-in_err-laid-clause-fault : goal.returns-in_err-laid-clause-fault
returns-in_err-laid-clause-fault c =
    let p = err_from_is_err_and c.from_residual-in_err-laid.result c.from_residual-in_err-laid.ensures.1 in
    rw (p.1, p.2) (given_layout c.args.bytes.now c.in_ok-tokens.tokens.items _ c.in_ok-tokens.ensures.ok c.in_err-laid.ensures.fault)

pub returns-in_err-circuit-clause-fault : goal.returns-in_err-circuit-clause-fault
returns-in_err-circuit-clause-fault c =
    let laid = laid_by c.args.bytes.now _ _ c.in_ok-laid.laid.items c.in_ok-tokens.ensures.ok c.in_ok-laid.ensures.ok c.in_ok-laid.ensures.items c.deref.ensures.value in
    let p = err_from_is_err_and c.from_residual-in_err-circuit.result c.from_residual-in_err-circuit.ensures.1 in
    rw (p.1, p.2) (given_grammar c.args.bytes.now c.in_ok-laid.laid.items _ _ laid c.deref-2.ensures.value c.in_err-circuit.ensures.fault)

pub returns-clause-parsed : goal.returns-clause-parsed
returns-clause-parsed c =
    let laid = laid_by c.args.bytes.now _ _ c.in_ok-laid.laid.items c.in_ok-tokens.ensures.ok c.in_ok-laid.ensures.ok c.in_ok-laid.ensures.items c.deref.ensures.value in
    parsed_by c.args.bytes.now c.in_ok-laid.laid.items _ c.in_ok-circuit.circuit laid c.deref-2.ensures.value c.in_ok-circuit.ensures.ok c.in_ok-circuit.ensures.shallow
