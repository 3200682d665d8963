use Rattle.sim_top.proofs.Small.{few, few_sinks}
use Rattle.sim_top.proofs.judge.divide_refined.Goals as goal

pub circuit_refine-requires-clause-few : goal.circuit_refine-requires-clause-few
circuit_refine-requires-clause-few c = few c.accepted_nets_are_small.ensures.leaves c.requires.built.0 c.args.built.now c.requires.built.1

pub circuit_refine-requires-clause-few_sinks : goal.circuit_refine-requires-clause-few_sinks
circuit_refine-requires-clause-few_sinks c =
    few_sinks c.accepted_nets_are_small.ensures.watched c.accepted_nets_are_small.ensures.sinks c.requires.built.0 c.args.built.now c.requires.built.1
