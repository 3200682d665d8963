use Rattle.std.proofs.Common.{slice_index, refl, sym, ◌∙◌}
use Rattle.ground_net.proofs.Stretches.{stretch_moved}
use Rattle.ground_net.proofs.numbers.Numbers.renumbered.Goals as goal

pub returns-then-keep : goal.returns-then-keep
returns-then-keep c =
    stretch_moved (slice_index c.args.numbers.now) c.self.inside.others c.self.inside.stretch c.in-Some.stretch c.in_ok-spans.spans c.number_of-first.result c.args.self.now c.in_ok-kept.kept
    (sym c.self.view_is) c.in-Some.is (c.if-is_empty.ensures.0 refl) (c.in_ok-spans.ensures ∙ c.as_slice.ensures) c.number_of-first.ensures (c.if-keep.ensures refl) c.in_ok-kept.ensures
