use Rattle.ground_net.proofs.Layers.{value_agrees}
use Rattle.ground_net.proofs.mention_laws.values_follow_mentions.Goals as goal

pub returns : goal.returns
returns c = λ g a b loads leaves. value_agrees a b loads g leaves
