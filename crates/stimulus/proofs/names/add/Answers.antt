use Rattle.std.specs.Prelude.{Some}
use Rattle.std.proofs.lemmas.Map.Text.{btree_map_updates_str}
use Rattle.stimulus.specs.Naming.{found}
use Rattle.stimulus.proofs.names.add.Goals as goal

pub returns : goal.returns
unfolding found
returns c = λ other. btree_map_updates_str c.args.name.now c.args.known.now.leaves c.insert.new.self (Some c.args.leaf) c.in_ok-insert.ensures.updates other
