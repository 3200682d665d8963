use Rattle.std.proofs.Common.{◌∙◌, sym, arith}
use Rattle.std.proofs.lemmas.List.{length-map}
use Rattle.flat_code.specs.Meaning.{location_value, ran, published}
use Rattle.flat_code.specs.Codes.{zeros}
use Rattle.flat_code.proofs.Frames.{published_few}
use Rattle.flat_code.proofs.Changing.{changed_few}
use Rattle.flat_code.proofs.laws.effects_have_their_numbers.Goals as goal

pub returns-clause-publications : goal.returns-clause-publications
returns-clause-publications c = λ code words inputs.
    let few = published_few code.ports code.wides words inputs code.instrs (zeros code) in
    let fewer = changed_few code.once words (published code.ports code.wides code.instrs words inputs (zeros code)) in
    let most = code.at_most in
    omega (arith, fewer, few, most)

pub returns-clause-outputs : goal.returns-clause-outputs
returns-clause-outputs c = λ code words inputs. length-map code.shown (location_value (ran code.wides code.instrs words inputs (zeros code))) ∙ sym code.each_shown
