use Rattle.std.proofs.Common.{◌≡◌, length, sym, ◌∙◌, arith}
use Rattle.comb_order.proofs.Making.{vertex_known, vertex_made}
use Rattle.comb_order.proofs.spread.vertex_of.Goals as goal

pub returns-in-Some : goal.returns-in-Some
returns-in-Some c = vertex_known c.args.leaves.now c.args.numbers.now c.args.spread.now c.in_ok-key.key c.in-Some.vertex.now c.requires.begun (c.in_ok-key.ensures ∙ sym c.requires.tells) (sym c.in-Some.ensures.value)

pub returns : goal.returns
returns c =
    let number : c.in-Ok.vertex ≡ length c.args.spread.now.rows.items = omega (arith, c.in-Ok.ensures, c.len.ensures, c.args.spread.now.rows.ok.0) in
    vertex_made c.args.leaves.now c.args.numbers.now c.args.spread.now (record { rows = c.push.new.self; known = c.insert.new.self }) c.in_ok-key.key c.in_ok-row.row c.in-Ok.vertex c.requires.begun
    (c.in_ok-key.ensures ∙ sym c.requires.tells) c.in_ok-row.ensures number c.in_ok-push.ensures.items (λ q. c.in_ok-insert.ensures.updates.0 q)
