use Rattle.std.proofs.Common.{◌≡◌, [], ◌∷◌, ◌++◌, length, ap, ◌∙◌, arith, length-append}
use Rattle.fir_tree.specs.declared.expr.Expr.{Expr}
use Rattle.fir_tree.specs.declared.stmt.Stmt.TheVariants as stmt
use Rattle.item_lines.specs.Items.{argument_name}
use Rattle.item_lines.proofs.Naming.{kept_twice}
use Rattle.item_lines.proofs.Nodes.{made_more, argument_text}
use Rattle.item_lines.proofs.item.push_nodes.Goals as goal

pub returns-in_err-push-clause-names : goal.returns-in_err-push-clause-names
returns-in_err-push-clause-names c = kept_twice c.args.names.now c.loop-argument.names c.add.new.names c.loop-argument.invariant.kept c.in_ok-node.ensures.names

pub loop-argument-preserved : goal.loop-argument-preserved
loop-argument-preserved c =
    let it = c.in-Some.ensures.steps.0 in
    let before = c.loop-argument.invariant in
    let name_is : c.as_str.result.now ≡ argument_name c.args.number c.loop-argument.index = argument_text c.args.number c.loop-argument.index c.as_str.result.now (c.as_str.ensures.value ∙ c.in_ok-text.ensures.ok) in
    record {
      index = simp length-append (omega (arith, before.index));
      left = omega (arith, ap length it, before.left);
      room = omega (arith, c.in_ok-node.ensures.grows, before.room);
      kept = kept_twice c.args.names.now c.loop-argument.names c.add.new.names before.kept c.in_ok-node.ensures.names;
      made = λ distinct. let was = before.made distinct in
          made_more c.args.number c.loop-argument.index c.args.place c.loop-argument.yielded c.in-Some.argument c.args.made.now.items c.loop-argument.made.items c.push.new.self.items c.args.names.now
          c.loop-argument.names c.add.new.names c.in_ok-node.node before.index was (rw name_is at (c.in_ok-node.ensures.named was.distinct)) (c.in_ok-push.ensures.items ∙ ap (λ (e : Expr). c.loop-argument.made.items ++ stmt.Node c.in_ok-node.node e ∷ []) c.in_ok-padded.ensures);
    }
