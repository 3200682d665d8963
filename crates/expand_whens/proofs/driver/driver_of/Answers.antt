use Rattle.std.proofs.Common.{◌≡◌, [], ◌∷◌, rules, subst, sym, arith, length}
use Rattle.expand_whens.specs.Expanding.{IsChoice}
use Rattle.expand_whens.proofs.Guards.{taken_from_end}
use Rattle.expand_whens.proofs.Choices.{choice_more, choice_told, none_left}
use Rattle.expand_whens.proofs.driver.driver_of.Goals as goal

pub loop-way-init : goal.loop-way-init
loop-way-init c = (c.in-Some.first ∷ [], search rules, c.in_ok-items.ensures)

pub loop-way-preserved : goal.loop-way-preserved
loop-way-preserved c =
    let i = c.loop-way.invariant in (
      c.in-Some-pop.way ∷ i.0,
      taken_from_end _ _ _ i.0 _ (search rules) i.1,
      choice_more _ _ _ i.0 _ c.loop-way.items.items c.push_pair.new.items.items c.guard_item.ensures.holds c.guard_item.ensures.mentions c.guard_item.ensures.fits c.in_ok-push_pair.ensures i.2,
    )

pub returns : goal.returns
returns c =
    let i = c.loop-way.invariant in
    let empty : length c.loop-way.ways.items ≡ 0 = omega (arith, c.in_default-pop.ensures.cases.0) in
    subst (λ ways. IsChoice c.args.leaf.now c.args.number ways c.chosen_of.result) (sym (none_left _ _ i.0 i.1 empty))
    (choice_told _ _ _ _ _ c.chosen_of.ensures.value c.chosen_of.ensures.mentions c.chosen_of.ensures.shape i.2)
