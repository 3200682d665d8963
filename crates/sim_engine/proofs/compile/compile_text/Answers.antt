use Rattle.sim_engine.proofs.Given.{fault_from, placed_from, accepts_from, refuses_from}
use Rattle.sim_engine.proofs.compile.compile_text.Goals as goal

pub returns-clause-fault : goal.returns-clause-fault
returns-clause-fault c = fault_from c.args.bytes.now c.pass_stages.result c.pass_stages.ensures.fault

pub returns-clause-placed : goal.returns-clause-placed
returns-clause-placed c = placed_from c.args.bytes.now c.pass_stages.result c.pass_stages.ensures.fault

pub returns-clause-accepts : goal.returns-clause-accepts
returns-clause-accepts c = accepts_from c.args.bytes.now c.pass_stages.result c.pass_stages.ensures.built c.pass_stages.ensures.fault

pub returns-clause-refuses : goal.returns-clause-refuses
returns-clause-refuses c = refuses_from c.args.bytes.now c.pass_stages.result c.pass_stages.ensures.built c.pass_stages.ensures.fault
