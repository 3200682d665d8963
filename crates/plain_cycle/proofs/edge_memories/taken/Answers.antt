use Rattle.std.proofs.Common.{sym, ap, ◌∙◌}
use Rattle.fir_meaning.specs.States.{taken}
use Rattle.plain_values.specs.Contents.{contents_of}
use Rattle.plain_cycle.proofs.edge_memories.taken.Goals as goal

pub returns-in-New : goal.returns-in-New
returns-in-New c = λ leaves. ap (λ u. taken u (contents_of leaves c.args.before.now) (contents_of leaves c.args.after.now)) (sym c.in-New.is ∙ c.under_of.ensures)
