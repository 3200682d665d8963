use Rattle.std.proofs.Common.{◌∙◌, ap, sym}
use Rattle.std.specs.Prelude.{option_copied}
use Rattle.sim_top.proofs.Naming.{unnamed}
use Rattle.sim_top.proofs.top.main_name.Goals as goal

pub returns-in-None : goal.returns-in-None
returns-in-None c =
    let circuit = c.get-circuit.result.now in
    let none = unnamed circuit.names circuit.main.id (sym c.get.ensures ∙ ap option_copied c.in-None.is) in
    sym (rw c.get-circuit.ensures at none)
