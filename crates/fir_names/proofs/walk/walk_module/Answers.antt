use Rattle.std.proofs.Common.{rules, map}
use Rattle.fir_names.specs.Parts.{declares, in_turn, stmt_part}
use Rattle.fir_names.proofs.Walking.{walked_all, walks_then, plainly}
use Rattle.fir_names.proofs.walk.walk_module.Goals as goal

pub returns : goal.returns
returns c = walked_all c.args.holder.now
    (walks_then (plainly (in_turn (map (λ p. declares p.name) c.args.holder.now.ports)) (in_turn (map stmt_part c.args.holder.now.body)))
    (rw c.as_slice.ensures at c.in_ok-walk_ports.ensures) (rw c.as_slice-2.ensures at c.in_ok-walk_statements.ensures))
    (search rules) (search rules) (search rules) (search rules) (search rules)
