use Rattle.std.proofs.Common.{◌≡◌, length, refl, ◌∙◌}
use Rattle.line_stmts.proofs.Making.{makes_item}
use Rattle.line_stmts.proofs.walk.item.Goals as goal

pub returns : goal.returns
returns c =
    let counted : c.in-Ok.number ≡ length c.args.maker.now.places = c.in-Ok.ensures.1 ∙ c.len.ensures in
    rw c.from_vec.ensures (makes_item c.args.maker.now _ c.args.call.place c.args.call.clock c.args.call.condition c.args.call.arguments c.args.stop c.args.pieces c.in_ok-made.made.items
    (λ d. rw (counted, c.into_vec-arguments.ensures) at (c.in_ok-made.ensures.stmts d)) refl c.in_ok-push.ensures.ok (rw counted at c.in_ok-push-2.ensures.ok))
