use Rattle.std.proofs.Common.{arith, ◌≡◌, ◌<◌, ◌++◌, [], length, append-nil, append_assoc, sym, ap, ◌∙◌}
use Rattle.std.proofs.lemmas.Grind.{common_steps}
use Rattle.fir_layout.specs.Layout.{items}
use Rattle.fir_layout.proofs.Turning.{line_empty, line_ok}
use Rattle.fir_layout.proofs.layout.lay_line.Goals as goal

pub returns-then-is_empty-clause-ok : goal.returns-then-is_empty-clause-ok
returns-then-is_empty-clause-ok c =
    let none : length c.args.tokens.now ≡ 0 = grind (arith, common_steps) in
    ([], line_empty c.args.bytes.now c.args.blocks.now.items c.args.start c.args.tokens.now none, sym (append-nil _))

pub returns-in_ok-push_items-clause-ok : goal.returns-in_ok-push_items-clause-ok
returns-in_ok-push_items-clause-ok c =
    let some : 0 < length c.args.tokens.now = grind (arith, common_steps) in
    let turned = rw c.if-fits.true at c.in_ok-fits.ensures in (
      turned.0 ++ items c.args.tokens.now,
      line_ok c.args.bytes.now c.args.blocks.now.items c.args.start c.spaces-indent.result c.args.tokens.now turned.0 _ c.spaces-indent.ensures.count some c.if-is_tab.ensures turned.1,
      c.in_ok-push_items.ensures ∙ ap (λ xs. xs ++ items c.args.tokens.now) turned.2 ∙ append_assoc c.args.laid.now.items turned.0 (items c.args.tokens.now),
    )
