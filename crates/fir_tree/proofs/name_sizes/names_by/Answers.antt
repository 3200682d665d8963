use Rattle.std.proofs.Common.{◌∙◌, sym, ap}
use Rattle.std.specs.Prelude.{length}
use Rattle.fir_types.specs.Leaves.{count}
use Rattle.fir_tree.specs.LeafNames.{text_of}
use Rattle.fir_tree.specs.Caps.{cap}
use Rattle.fir_tree.specs.Texts.{way_bytes}
use Rattle.fir_tree.proofs.Wording.{names-type, name_capped}
use Rattle.fir_tree.proofs.name_sizes.names_by.Goals as goal

pub returns-clause-bytes : goal.returns-clause-bytes
returns-clause-bytes c typ leaves bytes =
    name_capped (count typ) (way_bytes c.args.names.now typ) (length (text_of c.args.names.now c.args.id))
    c.args.ways.leaves c.saturating_mul.result c.args.ways.bytes c.saturating_add.result
    leaves (rw c.name_length.ensures at c.saturating_mul.ensures) bytes c.saturating_add.ensures
    ∙ sym (ap cap (names-type c.args.names.now c.args.id typ))
