use Rattle.size_check.proofs.Kept.{none_measured}
use Rattle.size_check.proofs.known.known_of.Goals as goal

pub returns-clause-measured : goal.returns-clause-measured
returns-clause-measured c =
    c.in_ok-note_statements.ensures.measured (c.in_ok-note_ports.ensures.measured (none_measured c.args.modules.now.names.now c.in_ok-known.known.types.entries c.in_ok-known.ensures))
