use Rattle.std.proofs.Common.{◌≡◌, ◌∙◌, ap, [], true, false, None, option_map}
use Rattle.bit_words.specs.Values.{integer_of}
use Rattle.fir_meaning.specs.Values.{spot_of}
use Rattle.fir_meaning.specs.Drives.{set_at, left_in}
use Rattle.drive_check.specs.Keys.{leaf_of_key}
use Rattle.plain_values.specs.Sites.{scene_of_view}
use Rattle.plain_values.proofs.Numbers.{or_of}
use Rattle.plain_values.proofs.Settings.{left_of_two}
use Rattle.plain_values.proofs.setting.set_by_invalidate.Goals as goal

pub returns : goal.returns
returns c =
    let scene = scene_of_view c.args.view.now in
    let leaf = leaf_of_key c.args.leaf.now in
    let target = c.args.target.now in
    let plain : option_map integer_of c.in_ok-plain.plain ≡ left_in leaf None (set_at false (spot_of scene target) []) =
    c.in_ok-plain.ensures ∙ ap (λ s. left_in leaf None (set_at false s [])) c.in_ok-spot.ensures in
    let turned : option_map integer_of c.in_ok-turned.turned ≡ left_in leaf None (set_at true (spot_of scene target) []) =
    c.in_ok-turned.ensures ∙ ap (λ s. left_in leaf None (set_at true s [])) c.in_ok-spot.ensures in
    ap (option_map integer_of) c.or.ensures
    ∙ (or_of integer_of c.in_ok-turned.turned c.in_ok-plain.plain
    ∙ left_of_two leaf (set_at false (spot_of scene target) []) (set_at true (spot_of scene target) []) (option_map integer_of c.in_ok-plain.plain) (option_map integer_of c.in_ok-turned.turned) plain turned)
