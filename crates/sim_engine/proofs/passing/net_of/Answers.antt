use Rattle.sim_engine.proofs.passing.net_of.Goals as goal

pub net_of_statements-requires-clause-instanced : goal.net_of_statements-requires-clause-instanced
net_of_statements-requires-clause-instanced c = c.passes_serve_circuits.ensures.instanced c.args.fitted.now c.requires.formed c.args.lowered.now c.requires.made

pub returns : goal.returns
returns c =
    c.passes_serve_circuits.ensures.serves c.args.fitted.now c.requires.formed c.requires.initialized c.args.lowered.now c.requires.made
    c.in_ok-net.net c.in_ok-net.ensures
