use Rattle.std.proofs.Common.{refl}
use Rattle.expand_whens.proofs.Guards.{part_accepted, part_refused, accepted_fits, refused_fits}
use Rattle.expand_whens.proofs.guard.with_one.Goals as goal

pub returns-then-holds-clause-part : goal.returns-then-holds-clause-part
returns-then-holds-clause-part c = rw c.if-holds.true (part_accepted c.args.part (record { refused = c.args.part.refused; accepted = c.push.new.self }) _ refl c.in_ok-push.ensures.items)

pub returns-then-holds-clause-fits : goal.returns-then-holds-clause-fits
returns-then-holds-clause-fits c = λ table a b. accepted_fits table c.args.part (record { refused = c.args.part.refused; accepted = c.push.new.self }) c.args.condition refl c.in_ok-push.ensures.items a b

pub returns-clause-part : goal.returns-clause-part
returns-clause-part c = rw c.if-holds.false (part_refused c.args.part (record { refused = c.push-2.new.self; accepted = c.args.part.accepted }) _ c.in_ok-push-2.ensures.items refl)

pub returns-clause-fits : goal.returns-clause-fits
returns-clause-fits c = λ table a b. refused_fits table c.args.part (record { refused = c.push-2.new.self; accepted = c.args.part.accepted }) c.args.condition c.in_ok-push-2.ensures.items refl a b
