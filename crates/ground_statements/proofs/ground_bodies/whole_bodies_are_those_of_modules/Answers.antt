use Rattle.ground_statements.proofs.Wholes.{whole_body}
use Rattle.ground_statements.proofs.ground_bodies.whole_bodies_are_those_of_modules.Goals as goal

pub returns : goal.returns
returns c = whole_body
