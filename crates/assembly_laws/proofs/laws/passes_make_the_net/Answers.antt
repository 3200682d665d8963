use Rattle.lowering_laws.proofs.Whole.{setting}
use Rattle.assembly_laws.proofs.Assembly.{net_is}
use Rattle.assembly_laws.proofs.laws.passes_make_the_net.Goals as goal

pub returns : goal.returns
returns c = λ fitted well init lowered is driven expanded flat is_flat net placed is_net.
    net_is (setting fitted well lowered is driven expanded flat is_flat) net placed (c.initialized_leaves_are_driven.ensures fitted init) c.loads_are_what_ports_read.ensures.integer is_net
