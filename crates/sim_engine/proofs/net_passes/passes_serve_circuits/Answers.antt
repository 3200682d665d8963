use Rattle.sim_engine.proofs.net_passes.passes_serve_circuits.Goals as goal

pub returns-clause-serves : goal.returns-clause-serves
returns-clause-serves c = λ fitted well init lowered is net passes.
    let flat = passes.flattened in
    let sound = c.flat_circuits_are_sound.ensures fitted well init lowered is flat.driven flat.expanded passes.flat flat.is in
    c.nets_of_circuits_serve_them.ensures fitted well net
    (c.passes_make_the_net.ensures fitted well init lowered is flat.driven flat.expanded passes.flat flat.is net passes.placed (passes.well_formed sound))
