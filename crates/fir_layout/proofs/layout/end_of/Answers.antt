use Rattle.std.proofs.Common.{sym}
use Rattle.fir_layout.proofs.Turning.{end_is}
use Rattle.fir_layout.proofs.layout.end_of.Goals as goal

pub returns-in-Some : goal.returns-in-Some
returns-in-Some c = let item = c.in-Some.ensures.item in end_is c.args.tokens.now c.in-Some.token.now item.3.0 (sym item.1)
