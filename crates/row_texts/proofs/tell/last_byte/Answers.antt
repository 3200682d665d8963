use Rattle.std.proofs.Common.{sym, arith}
use Rattle.std.proofs.lemmas.Grind.{common_steps}
use Rattle.row_texts.proofs.Texts.{last_is}
use Rattle.row_texts.proofs.tell.last_byte.Goals as goal

pub returns : goal.returns
returns c = sym (last_is c.args.before c.args.bytes.now 0 (grind (arith, common_steps, c.is_empty.ensures, c.if-is_empty.false)))
