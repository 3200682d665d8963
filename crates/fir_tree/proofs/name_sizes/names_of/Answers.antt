use Rattle.fir_tree.proofs.name_sizes.names_of.Goals as goal

pub returns-clause-bytes : goal.returns-clause-bytes
returns-clause-bytes c = c.names_by.ensures.bytes c.args.typ.now c.ways_of.ensures.leaves c.ways_of.ensures.bytes
