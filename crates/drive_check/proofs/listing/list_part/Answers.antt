use Rattle.std.proofs.Common.{◌∙◌, sym, arith}
use Rattle.std.proofs.lemmas.Grind.{common_steps}
use Rattle.fir_types.proofs.Walks.{no_leaves}
use Rattle.drive_check.proofs.listing.list_part.Goals as goal

pub returns-then-leaf_count-eq0 : goal.returns-then-leaf_count-eq0
returns-then-leaf_count-eq0 c = c.new.ensures.items ∙ sym (no_leaves c.args.part.typ.now (grind (arith, common_steps)))
