use Rattle.std.proofs.Common.{◌≡◌, [], ◌∷◌, sym, append-nil, rules, arith, length}
use Rattle.std.proofs.lemmas.Bool.Decides.{nat_tests}
use Rattle.expand_whens.proofs.Guards.{empty_list, refusing_nothing, refusing_none, refusing_more, taken_from_end}
use Rattle.expand_whens.proofs.guard.none_of.Goals as goal

pub loop-condition-init : goal.loop-condition-init
loop-condition-init c = ([], sym (append-nil c.args.refused.items), rw c.in_ok-items.ensures.items (refusing_none _ c.bit-2.ensures.value c.bit-2.ensures.mentions c.bit-2.ensures.shape))

pub loop-condition-preserved : goal.loop-condition-preserved
loop-condition-preserved c =
    let i = c.loop-condition.invariant in (
      c.in-Some.condition ∷ i.0,
      taken_from_end _ _ _ i.0 _ (search rules) i.1,
      refusing_more i.0 c.loop-condition.items.items _ _ c.push_pair.new.items.items c.bit-in-Some.ensures.value c.bit-in-Some.ensures.mentions c.bit-in-Some.ensures.shape c.in_ok-push_pair.ensures i.2,
    )

pub returns-then-is_empty : goal.returns-then-is_empty
returns-then-is_empty c =
    let none : length c.args.refused.items ≡ 0 = first_of (omega arith, grind (arith, nat_tests, c.is_empty.ensures, c.if-is_empty.true)) in
    refusing_nothing c.bit.result c.args.refused.items (empty_list _ none) c.bit.ensures.value c.bit.ensures.mentions c.bit.ensures.shape
