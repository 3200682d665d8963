use Rattle.crew_run.proofs.Lines.{summary_once}
use Rattle.crew_run.proofs.trace_summary.summaries_are_one.Goals as goal

pub returns : goal.returns
returns c = summary_once
