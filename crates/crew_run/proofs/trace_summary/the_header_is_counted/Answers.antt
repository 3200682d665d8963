use Rattle.crew_run.proofs.Lines.{example}
use Rattle.crew_run.proofs.trace_summary.the_header_is_counted.Goals as goal

pub returns : goal.returns
returns c = example
