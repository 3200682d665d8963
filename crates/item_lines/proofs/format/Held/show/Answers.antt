use Rattle.item_lines.proofs.Reading.{behind_show}
use Rattle.item_lines.proofs.format.Held.show.Goals as goal

pub returns : goal.returns
returns c = λ later. rw (c.in_ok-push.ensures.items, c.in_ok-close.ensures.pieces, c.in_ok-close.ensures.text) (behind_show c.args.self.now.pieces.items c.args.self.now.text.items c.args.radix later)
