use Rattle.std.proofs.Common.{subst, sym}
use Rattle.std.specs.Prelude.{IfSome}
use Rattle.row_texts.proofs.Texts.{last_all}
use Rattle.row_texts.proofs.tell.push_told.Goals as goal

pub push_row-requires-clause-before : goal.push_row-requires-clause-before
push_row-requires-clause-before g c =
    subst (λ o. IfSome o (g.T.Teller.reads c.args.teller.now)) (sym c.row_before-before.ensures) (last_all (g.T.Teller.reads c.args.teller.now) c.args.spot.now.before c.args.rows.now c.requires.before c.requires.reads c.args.at)
