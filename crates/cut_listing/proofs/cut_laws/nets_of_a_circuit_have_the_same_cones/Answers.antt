use Rattle.cut_listing.proofs.Circuits.{same_sinks, to_other, from_other}
use Rattle.cut_listing.proofs.cut_laws.nets_of_a_circuit_have_the_same_cones.Goals as goal

pub returns-clause-sinks : goal.returns-clause-sinks
returns-clause-sinks c = λ texts design net other serves stand of. same_sinks texts design net serves stand other of

pub returns-clause-cones : goal.returns-clause-cones
returns-clause-cones c = λ texts design net other serves stand of k x i. to_other texts design net serves stand other of k x i

pub returns-clause-back : goal.returns-clause-back
returns-clause-back c = λ texts design net other serves stand of k x i. from_other texts design net serves stand other of k x i
