use Rattle.std.proofs.Common.{rules, refl}
use Rattle.fir_names.specs.Extents.{references}
use Rattle.fir_names.proofs.Walking.{walks_mention}
use Rattle.fir_names.proofs.walk.mention.Goals as goal

pub returns : goal.returns
returns c = walks_mention (references c.args.expr.now) refl refl refl (search rules) (search rules)
