use Rattle.std.proofs.Common.{◌≡◌, ◌∷◌, arith}
use Rattle.std.proofs.lemmas.Grind.{common_steps}
use Rattle.type_index.specs.Memories.{part_of, data_parts}
use Rattle.type_index.proofs.Ports.{port_has}
use Rattle.type_index.proofs.memory_classes.port_parts.Goals as goal

pub returns : goal.returns
returns c = λ table element depth place.
    let is : c.push_data.new.parts.items ≡ part_of 0 0 ∷ part_of 1 0 ∷ part_of 2 2 ∷ data_parts c.args.mode c.args.elements = grind (arith, common_steps) in
    port_has table element depth c.args.mode place c.args.elements c.push_data.new.parts.items is
