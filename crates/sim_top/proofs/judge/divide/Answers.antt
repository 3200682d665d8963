use Rattle.sim_top.proofs.Small.{few, few_sinks}
use Rattle.sim_top.proofs.judge.divide.Goals as goal

-- src/judge.rt:239:16
pub circuit_cut-requires-clause-few : goal.circuit_cut-requires-clause-few
circuit_cut-requires-clause-few c = few c.accepted_nets_are_small.ensures.leaves c.requires.built.0 c.args.built.now c.requires.built.1

-- src/judge.rt:239:16
pub circuit_cut-requires-clause-few_sinks : goal.circuit_cut-requires-clause-few_sinks
circuit_cut-requires-clause-few_sinks c =
    few_sinks c.accepted_nets_are_small.ensures.watched c.accepted_nets_are_small.ensures.sinks c.requires.built.0 c.args.built.now c.requires.built.1
