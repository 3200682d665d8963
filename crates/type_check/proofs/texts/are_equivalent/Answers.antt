use Rattle.type_check.specs.Texts.{are_equivalent}
use Rattle.type_check.proofs.Equivalence.{yes, is_equivalent, same_answer}
use Rattle.type_check.proofs.texts.are_equivalent.Goals as goal

pub returns : goal.returns
returns c =
    same_answer c.equivalent.result (are_equivalent c.args.left.now c.args.right.now) c.equivalent.ensures.0 c.equivalent.ensures.1
    (is_equivalent c.args.left.now c.args.right.now) yes
