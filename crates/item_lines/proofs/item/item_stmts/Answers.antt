use Rattle.item_lines.proofs.Naming.{kept_twice}
use Rattle.item_lines.proofs.item.item_stmts.Goals as goal

pub returns-in_err-push-clause-names : goal.returns-in_err-push-clause-names
returns-in_err-push-clause-names c = kept_twice c.args.names.now c.add.new.names c.add-2.new.names c.in_ok-register.ensures.names c.in_ok-wire.ensures.names

pub returns-in_err-push-2-clause-names : goal.returns-in_err-push-2-clause-names
returns-in_err-push-2-clause-names c = kept_twice c.args.names.now c.add.new.names c.add-2.new.names c.in_ok-register.ensures.names c.in_ok-wire.ensures.names

pub returns-in_err-push_nodes-clause-names : goal.returns-in_err-push_nodes-clause-names
returns-in_err-push_nodes-clause-names c =
    kept_twice c.args.names.now c.add.new.names c.push_nodes.new.names c.in_ok-register.ensures.names
    (kept_twice c.add.new.names c.add-2.new.names c.push_nodes.new.names c.in_ok-wire.ensures.names c.in_err-push_nodes.ensures.names)

pub returns-clause-names : goal.returns-clause-names
returns-clause-names c =
    kept_twice c.args.names.now c.add.new.names c.push_nodes.new.names c.in_ok-register.ensures.names
    (kept_twice c.add.new.names c.add-2.new.names c.push_nodes.new.names c.in_ok-wire.ensures.names c.in_ok-push_nodes.ensures.names)
