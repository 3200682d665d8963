use Rattle.ground_net.specs.Watching.{is_given, is_shown}
use Rattle.size_laws.proofs.Few.{few_leaves, few_memories, few_sinks, few_ports}
use Rattle.size_laws.proofs.laws.accepted_nets_are_small.Goals as goal

pub returns-clause-leaves : goal.returns-clause-leaves
returns-clause-leaves c = λ fitted accepted none net of. few_leaves c.leaves_are_counted.ensures c.measured_paths_are_all.ensures fitted (c.accepted_circuits_are_measured.ensures fitted accepted) none net of

pub returns-clause-memories : goal.returns-clause-memories
returns-clause-memories c = λ fitted accepted none net of. few_memories c.measured_paths_are_all.ensures fitted (c.accepted_circuits_are_measured.ensures fitted accepted) none net of

pub returns-clause-sinks : goal.returns-clause-sinks
returns-clause-sinks c = λ fitted accepted none net of watch.
    few_sinks c.sinks_are_few.ensures c.leaves_are_counted.ensures c.measured_paths_are_all.ensures fitted (c.accepted_circuits_are_measured.ensures fitted accepted) none net of watch

pub returns-clause-watched : goal.returns-clause-watched
returns-clause-watched c = λ fitted accepted none net of.
    few_ports is_shown c.leaves_are_counted.ensures c.measured_paths_are_all.ensures fitted (c.accepted_circuits_are_measured.ensures fitted accepted) none net of

pub returns-clause-inputs : goal.returns-clause-inputs
returns-clause-inputs c = λ fitted accepted none net of.
    few_ports is_given c.leaves_are_counted.ensures c.measured_paths_are_all.ensures fitted (c.accepted_circuits_are_measured.ensures fitted accepted) none net of
