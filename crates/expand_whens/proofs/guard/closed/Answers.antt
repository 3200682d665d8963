use Rattle.std.proofs.Common.{◌≡◌, [], ◌∷◌, sym, append-nil, rules, arith, length}
use Rattle.std.specs.Prelude.{IsSome}
use Rattle.std.proofs.lemmas.Bool.Decides.{nat_tests}
use Rattle.expand_whens.proofs.Guards.{closing_none, closing_more, closed_one, empty_list, taken_from_end}
use Rattle.expand_whens.proofs.guard.closed.Goals as goal

pub loop-condition-init : goal.loop-condition-init
loop-condition-init c = ([], sym (append-nil c.args.part.accepted.items), closing_none _ _ c.in_ok-guard.ensures)

pub loop-condition-preserved : goal.loop-condition-preserved
loop-condition-preserved c =
    let i = c.loop-condition.invariant in (
      c.in-Some.condition ∷ i.0,
      taken_from_end _ _ _ i.0 _ (search rules) i.1,
      closing_more _ i.0 _ _ _ c.in_ok-guard-2.ensures.value c.in_ok-guard-2.ensures.mentions c.in_ok-guard-2.ensures.shape i.2,
    )

pub returns-then-len-eq1-clause-guard : goal.returns-then-len-eq1-clause-guard
returns-then-len-eq1-clause-guard c =
    let one : length c.args.part.accepted.items ≡ 1 = omega arith in
    let no_length : length c.args.part.refused.items ≡ 0 = first_of (omega arith, grind (arith, nat_tests, c.is_empty.ensures, c.if-is_empty.true)) in
    let none : c.args.part.refused.items ≡ [] = empty_list _ no_length in
    let some : IsSome c.pop.result = search rules in
    (closed_one c.args.part c.pop.new.self.items c.pop.result none c.pop.ensures.items one some).0

pub returns-then-len-eq1-clause-fits : goal.returns-then-len-eq1-clause-fits
returns-then-len-eq1-clause-fits c =
    let one : length c.args.part.accepted.items ≡ 1 = omega arith in
    let no_length : length c.args.part.refused.items ≡ 0 = first_of (omega arith, grind (arith, nat_tests, c.is_empty.ensures, c.if-is_empty.true)) in
    let none : c.args.part.refused.items ≡ [] = empty_list _ no_length in
    let some : IsSome c.pop.result = search rules in
    (closed_one c.args.part c.pop.new.self.items c.pop.result none c.pop.ensures.items one some).1
