use Rattle.std.proofs.Common.{sym}
use Rattle.reference_flow.specs.Flows.{reference_flows}
use Rattle.reference_flow.proofs.Passing.{flow_at, flow_past}
use Rattle.reference_flow.proofs.flows.flow_of.Goals as goal

pub returns-in-Break : goal.returns-in-Break
returns-in-Break c = sym (flow_at (reference_flows c.args.checked.now.resolved) c.args.reference _ (sym (rw (c.in-Break.is, c.as_slice.ensures, c.get.ensures) at c.pass_modules.ensures)))

pub returns-in-Continue : goal.returns-in-Continue
returns-in-Continue c = sym (flow_past (reference_flows c.args.checked.now.resolved) c.args.reference _ (sym (rw (c.in-Continue.is, c.as_slice.ensures, c.get.ensures) at c.pass_modules.ensures)))
