use Rattle.std.proofs.Common.{◌∙◌, sym, ap}
use Rattle.std.specs.Prelude.{length}
use Rattle.fir_types.specs.Leaves.{count}
use Rattle.fir_tree.specs.LeafNames.{text_of}
use Rattle.fir_tree.specs.Caps.{cap}
use Rattle.fir_tree.specs.Texts.{way_bytes}
use Rattle.fir_tree.proofs.Wording.{ways-field, field_capped}
use Rattle.fir_tree.proofs.name_sizes.Ways.named.Goals as goal

pub returns-clause-bytes : goal.returns-clause-bytes
returns-clause-bytes c field name leaves bytes =
    let names = c.args.names.now in
    field_capped (count field.typ) (way_bytes names field.typ) (length (text_of names field.name.id))
    c.args.self.leaves c.saturating_add.result c.saturating_mul.result c.args.self.bytes c.saturating_add-2.result
    leaves (rw (sym name) at (rw c.name_length.ensures at c.saturating_add.ensures)) c.saturating_mul.ensures bytes c.saturating_add-2.ensures
    ∙ sym (ap cap (ways-field names field))
