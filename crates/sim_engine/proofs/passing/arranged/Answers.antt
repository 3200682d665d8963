use Rattle.sim_engine.proofs.passing.arranged.Goals as goal

pub order-requires-clause-mentions : goal.order-requires-clause-mentions
order-requires-clause-mentions c = c.drivers_mention_leaves.ensures c.args.net c.requires
