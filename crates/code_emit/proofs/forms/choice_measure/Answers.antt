use Rattle.code_emit.proofs.Shaped.{last_location}
use Rattle.code_emit.proofs.forms.choice_measure.Goals as goal

pub returns : goal.returns
returns c = last_location c.args.operands.now c.index-operands-operands.result c.requires c.index-operands-operands.is
