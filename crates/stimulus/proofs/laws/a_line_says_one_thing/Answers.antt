use Rattle.stimulus.proofs.Judged.{says_once}
use Rattle.stimulus.proofs.Verdict.{says_no_break}
use Rattle.stimulus.proofs.laws.a_line_says_one_thing.Goals as goal

pub returns-clause-one : goal.returns-clause-one
returns-clause-one c = says_once

pub returns-clause-formed : goal.returns-clause-formed
returns-clause-formed c = says_no_break
