use Rattle.print_stop.proofs.LowDigits.{whole_left, next_digit, last_digit}
use Rattle.print_stop.proofs.digits.digits_from_low.Goals as goal

pub loop-rest-init : goal.loop-rest-init
loop-rest-init c = rw c.new-low.ensures.items (whole_left c.args.base c.args.number c.ranges.number.fits)

pub loop-rest-preserved : goal.loop-rest-preserved
loop-rest-preserved c =
    next_digit c.args.base c.args.number c.loop-rest.rest c.digit.result c.loop-rest.low.items c.push.new.self.items c.requires.low c.loop-rest-test.true c.loop-rest.invariant c.in_ok-push.ensures.items c.digit.ensures

pub returns : goal.returns
returns c =
    last_digit c.args.base c.args.number c.loop-rest.rest c.digit-2.result c.loop-rest.low.items c.push-2.new.self.items c.loop-rest-test.false c.loop-rest.invariant c.in_ok-push-2.ensures.items c.digit-2.ensures
