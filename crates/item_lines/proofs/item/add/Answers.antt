use Rattle.item_lines.proofs.Naming.{is_named, names_kept}
use Rattle.item_lines.proofs.item.add.Goals as goal

pub returns-clause-named : goal.returns-clause-named
returns-clause-named c = λ distinct. is_named c.args.names.now c.add.new.self c.args.text.now c.in_ok-id.id c.args.place c.in_ok-id.ensures.added distinct

pub returns-clause-names : goal.returns-clause-names
returns-clause-names c = names_kept c.args.names.now c.add.new.self c.args.text.now c.in_ok-id.id c.in_ok-id.ensures.added
