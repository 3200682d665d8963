use Rattle.std.proofs.Common.{rules, sym}
use Rattle.fir_tree.proofs.Wording.{no_text}
use Rattle.fir_tree.proofs.name_sizes.name_length.Goals as goal

pub returns-in-None : goal.returns-in-None
returns-in-None c = sym (no_text c.args.names.now c.args.id _ c.get.ensures (search rules))
