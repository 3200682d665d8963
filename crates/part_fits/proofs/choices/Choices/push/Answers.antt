use Rattle.std.proofs.Common.{rules, refl}
use Rattle.part_fits.proofs.Seeing.{keeps_pushed, pushed_at, held_pushed}
use Rattle.part_fits.proofs.choices.Choices.push.Goals as goal

pub returns-clause-held : goal.returns-clause-held
returns-clause-held c = λ ws known h.
    held_pushed ws known c.args.self.now _ refl refl (keeps_pushed c.args.self.now.seen.items c.push.new.self.items c.args.seen c.in_ok-push.ensures.items) h

pub returns-clause-keeps : goal.returns-clause-keeps
returns-clause-keeps c = keeps_pushed c.args.self.now.seen.items c.push.new.self.items c.args.seen c.in_ok-push.ensures.items

pub returns-clause-seen : goal.returns-clause-seen
returns-clause-seen c = λ typ ws h.
    pushed_at c.args.self.now.seen.items c.push.new.self.items c.args.seen c.len-number.result typ ws (search rules) c.in_ok-push.ensures.items h
