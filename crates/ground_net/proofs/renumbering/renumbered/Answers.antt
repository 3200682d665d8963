use Rattle.std.proofs.Common.{ap, ◌∙◌, slice_index}
use Rattle.ground_net.specs.Grounds.{value, mentions}
use Rattle.ground_net.proofs.Layers.{renumbered_value, renumbered_mentions}
use Rattle.ground_net.proofs.renumbering.renumbered.Goals as goal

pub returns-clause-value : goal.returns-clause-value
returns-clause-value c = λ instant. ap (λ g. value g instant) c.in_ok-it.ensures ∙ renumbered_value (slice_index c.args.numbers.now) instant c.args.ground.now

pub returns-clause-mentions : goal.returns-clause-mentions
returns-clause-mentions c = ap mentions c.in_ok-it.ensures ∙ renumbered_mentions (slice_index c.args.numbers.now) c.args.ground.now
