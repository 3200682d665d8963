use Rattle.std.proofs.lemmas.Result.{err_from_is_err_and}
use Rattle.fir_grammar.specs.Grammar.{Its_name}
use Rattle.fir_parser.proofs.Steps.{taken_name, stands_named, blocks_named, fresh_named}
use Rattle.fir_parser.proofs.symbols.take_name.Goals as goal

pub take_name-requires-clause-source : goal.take_name-requires-clause-source
take_name-requires-clause-source c = record { short = c.requires.at.short; laid = c.requires.at.laid }

pub returns-in_err-name-clause-reads : goal.returns-in_err-name-clause-reads
returns-in_err-name-clause-reads c =
    let p = err_from_is_err_and c.from_residual.result c.from_residual.ensures.1 in
    rw (p.1, p.2) (record { refused = c.in_err-name.ensures.err.refused Its_name })

pub returns-clause-reads : goal.returns-clause-reads
returns-clause-reads c = let e = c.in_ok-name.ensures in
    record { taken = taken_name c.args.reader.now c.take_name.new.self c.in_ok-name.name c.requires.at (record { bytes = e.bytes; laid = e.laid; at = e.at; brackets = e.brackets; major = e.major; named = e.ok }); at = stands_named c.args.reader.now c.take_name.new.self c.in_ok-name.name c.requires.at (record { bytes = e.bytes; laid = e.laid; at = e.at; brackets = e.brackets; major = e.major; named = e.ok }); blocks = blocks_named c.args.reader.now c.take_name.new.self c.in_ok-name.name c.requires.at (record { bytes = e.bytes; laid = e.laid; at = e.at; brackets = e.brackets; major = e.major; named = e.ok }) }

pub returns-clause-fresh : goal.returns-clause-fresh
returns-clause-fresh c = let e = c.in_ok-name.ensures in
    fresh_named c.args.reader.now c.take_name.new.self c.in_ok-name.name c.requires.at (record { bytes = e.bytes; laid = e.laid; at = e.at; brackets = e.brackets; major = e.major; named = e.ok })
