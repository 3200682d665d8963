use Rattle.std.proofs.Common.{rules, ap, subst, ◌∙◌, ◌++◌, map}
use Rattle.std.proofs.lemmas.Result.{on_ok_weaker}
use Rattle.width_rules.specs.Walks.{ported}
use Rattle.width_fit.specs.Judging.{in_turn, ports_declared, ports_faults}
use Rattle.width_fit.specs.Walks.{Walks, solved, stmt_among}
use Rattle.part_fits.proofs.Declared.{no_fits}
use Rattle.width_fit.proofs.Whole.{module_walks}
use Rattle.width_fit.proofs.telling.walk_module.Goals as goal

pub declare_ports-requires : goal.declare_ports-requires
declare_ports-requires c = record { fits = no_fits _ _ _ (search rules); choices = c.new-3.ensures _ _ }

pub returns : goal.returns
returns c =
    let all = solved c.args.given.now in
    let instances = c.args.given.now.instances.components.entries in
    let ported' = ported c.args.held in
    on_ok_weaker c.walk_statements.result
    (λ w. module_walks all instances ported' c.args.walk.now c.declare_ports.new.walk c.walk_statements.new.walk (search rules) c.in_ok-declare_ports.ensures.places
    (c.in_ok-declare_ports.ensures.declared ∙ ap (λ ps. c.args.walk.now.declared.items ++ ports_declared all ps c.args.held.ports) c.as_slice-ports.ensures)
    c.in_ok-declare_ports.ensures.nodes
    (c.in_ok-declare_ports.ensures.faults ∙ ap (λ ps. c.args.walk.now.found.faults.items ++ ports_faults all ps c.args.held.ports) c.as_slice-ports.ensures)
    (subst (λ body. Walks (in_turn (map (stmt_among all instances) body)) c.declare_ports.new.walk c.walk_statements.new.walk) c.as_slice.ensures w))
    c.walk_statements.ensures.walks
