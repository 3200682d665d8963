use Rattle.net_laws.proofs.Accepted.{lists_leaves, is_typed}
use Rattle.assembly_laws.proofs.laws.nets_of_circuits_serve_them.Goals as goal

pub returns : goal.returns
returns c = λ fitted well net of. record { of = of; lists = lists_leaves fitted well of.main of.found of.placed of.order; has = well.bundles; typed = is_typed fitted well }
