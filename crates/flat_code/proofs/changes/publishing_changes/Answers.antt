use Rattle.std.proofs.Common.{sym}
use Rattle.flat_code.specs.Meaning.{published}
use Rattle.flat_code.specs.Codes.{zeros}
use Rattle.flat_code.proofs.Changing.{changed_again}
use Rattle.flat_code.proofs.changes.publishing_changes.Goals as goal

pub returns-clause-publications : goal.returns-clause-publications
returns-clause-publications c = λ words inputs.
    let code = c.args.code in
    sym (changed_again code.once c.args.once words (published code.ports code.wides code.instrs words inputs (zeros code)) c.requires.more)
