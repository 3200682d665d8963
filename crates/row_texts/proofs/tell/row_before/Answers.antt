use Rattle.std.proofs.Common.{sym, ap, ◌∙◌, arith, suc, ◌≡◌, take, length, ◌<◌, ◌-◌}
use Rattle.std.proofs.lemmas.Grind.{common_steps}
use Rattle.std.specs.Prelude.{Some}
use Rattle.row_texts.specs.Tellings.{last_from}
use Rattle.row_texts.proofs.Texts.{last_take}
use Rattle.row_texts.proofs.tell.row_before.Goals as goal

pub returns : goal.returns
returns c =
    let at = c.args.at in
    let rows = c.args.rows.now in
    let some = c.if-at-eq0.false in
    let within = c.requires in
    let lt : at - 1 < length rows = grind (arith, common_steps, some, within) in
    let e : suc (at - 1) ≡ at = grind (arith, common_steps, some) in
    ap Some c.index-rows-at.is ∙ (sym (last_take c.args.spot.now.before rows (at - 1) c.index-rows-at.result lt) ∙ ap (λ n. last_from c.args.spot.now.before (take n rows)) e)
