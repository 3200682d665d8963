use Rattle.std.proofs.Common.{rules, refl}
use Rattle.fir_names.proofs.Walking.{walks_declare}
use Rattle.fir_names.proofs.walk.declare.Goals as goal

pub returns : goal.returns
returns c = walks_declare c.args.name (search rules) refl (search rules) refl refl
