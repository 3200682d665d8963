use Rattle.lowering_laws.proofs.Whole.{setting}
use Rattle.lowering_laws.proofs.Flats.{flat_is}
use Rattle.lowering_laws.proofs.laws.passes_make_the_flat_circuit.Goals as goal

pub returns : goal.returns
returns c = λ fitted well init lowered is driven expanded flat is_flat.
    flat_is (setting fitted well lowered is driven expanded flat is_flat) (c.initialized_leaves_are_driven.ensures fitted init)
