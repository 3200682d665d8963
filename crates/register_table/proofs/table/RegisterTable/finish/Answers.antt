use Rattle.std.proofs.Common.{◌≡◌, drop, arith, ap, sym, ◌∙◌}
use Rattle.std.specs.Mem.Slots.{slots_items}
use Rattle.phase_core.specs.declared.model.Script.{Script}
use Rattle.phase_core.specs.Script.{values}
use Rattle.register_table.proofs.Allowed.{closed-words, closed-values}
use Rattle.register_table.proofs.table.RegisterTable.finish.Goals as goal

pub returns-clause-words : goal.returns-clause-words
returns-clause-words g c = closed-values g.N.Plan.script c.args.self.size.shape _ _
    (closed-words g.N.Plan.script c.args.self.size.shape _ _ _ _ c.args.post.view (ap (λ m. m.0) c.args.post.held) c.requires.last c.close_with-closed.ensures.values.2)
    (c.copy_words.auto.into ∙ c.requires.room ∙ c.args.self.size.words_are)
    (λ i inside. c.copy_words.ensures i (omega (arith, c.requires.room, c.args.self.size.words_are, inside)))

pub invariant_of-result : goal.invariant_of-result
invariant_of-result g c =
    let s = g.N.Plan.script in
    let end = closed-words s c.args.self.size.shape _ _ _ _ c.args.post.view (ap (λ m. m.0) c.args.post.held) c.requires.last c.close_with-closed.ensures.values.2 in
    record {
      words_are = ap (λ x. drop 1 (slots_items x.words)) c.of-end.ensures ∙ end
          ∙ sym (ap (λ (t : Script). values t t.cycles) (ap (λ x. x.me.0.script) c.of-last.ensures ∙ ap (λ m. m.0.script) c.args.post.held));
    }

pub returns-clause-closed : goal.returns-clause-closed
returns-clause-closed g c =
    let end = closed-words g.N.Plan.script c.args.self.size.shape _ _ _ _ c.args.post.view (ap (λ m. m.0) c.args.post.held) c.requires.last c.close_with-closed.ensures.values.2 in
    ap (λ x. drop 1 (slots_items x.words)) c.of-end.ensures ∙ end ∙ sym (returns-clause-words g c)
