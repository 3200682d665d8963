use Rattle.item_lines.proofs.Reading.{behind_put}
use Rattle.item_lines.proofs.format.Held.put.Goals as goal

pub returns : goal.returns
returns c = λ later. rw c.in_ok-push.ensures.items (behind_put c.args.self.now.pieces.items c.args.self.now.text.items c.args.byte later)
