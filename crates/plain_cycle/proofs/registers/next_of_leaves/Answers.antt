use Rattle.std.proofs.Common.{◌≡◌, true≢false, sym, ap, ◌∙◌, subst, arith}
use Rattle.bit_words.specs.declared.value.Value.{Value}
use Rattle.bit_words.specs.Values.{integer_of}
use Rattle.fir_types.specs.declared.leaf.TypeLeaf.{TypeLeaf}
use Rattle.fir_meaning.specs.States.{is_register}
use Rattle.plain_cycle.specs.Runs.{design_in, state_at, values_at}
use Rattle.plain_cycle.proofs.Views.{sort_is, leaves_are}
use Rattle.plain_cycle.specs.Edges.{Beside, next_in_leaf}
use Rattle.plain_cycle.proofs.Besides.{beside_more, beside_all}
use Rattle.plain_cycle.proofs.registers.next_of_leaves.Goals as goal

pub returns-in_default : goal.returns-in_default
returns-in_default c = λ x is register.
    absurd (true≢false (sym register ∙ (sym (ap is_register (sort_is (design_in c.args.run.now) x c.args.part.now is)) ∙ c.in_default.ensures.none)))

pub loop-leaf-preserved : goal.loop-leaf-preserved
loop-leaf-preserved c = λ x is.
    let run = c.args.run.now in
    beside_more (λ (leaf : TypeLeaf) (v : Value). integer_of v ≡ next_in_leaf (state_at run c.args.moment.now) (values_at run c.args.moment.now) x leaf) c.as_slice-leaf-items.result.now c.loop-leaf.leaf-index c.leaf-item.result
    c.loop-leaf.values c.push.new.self c.in_ok-next_of_leaf.field-0 (omega arith) c.leaf-item.is c.in_ok-push.ensures.ok (c.in_ok-next_of_leaf.ensures x is) (c.loop-leaf.invariant x is)

pub returns : goal.returns
returns c = λ x is register.
    let run = c.args.run.now in
    let rule = λ (leaf : TypeLeaf) (v : Value). integer_of v ≡ next_in_leaf (state_at run c.args.moment.now) (values_at run c.args.moment.now) x leaf in
    subst (λ l. Beside rule l c.loop-leaf.values) (c.as_slice-leaf-items.ensures ∙ leaves_are (design_in run) x c.args.part.now is)
    (beside_all rule c.as_slice-leaf-items.result.now c.loop-leaf.leaf-index c.loop-leaf.values (omega arith) (c.loop-leaf.invariant x is))
