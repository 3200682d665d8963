use Rattle.std.proofs.Common.{arith}
use Rattle.std.proofs.lemmas.Grind.{common_steps}
use Rattle.item_lines.proofs.Reading.{closed_text}
use Rattle.item_lines.proofs.format.Held.close.Goals as goal

pub returns-in_ok-push-clause-pieces : goal.returns-in_ok-push-clause-pieces
returns-in_ok-push-clause-pieces c = grind (arith, common_steps, closed_text)
