use Rattle.flatten_instances.proofs.Uniqueness.{once}
use Rattle.flatten_instances.proofs.laws.leaves_stand_once.Goals as goal

pub returns : goal.returns
returns c = λ driven path n m y k i items s a b order at at'. once order s a b at at'
