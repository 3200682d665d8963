use Rattle.std.proofs.Common.{◌≡◌, ◌∙◌, ap, ap₂, true, false, None, option_map}
use Rattle.bit_words.specs.Values.{integer_of}
use Rattle.fir_meaning.specs.Values.{value, spot_of}
use Rattle.fir_meaning.specs.Drives.{set_at, left_in}
use Rattle.drive_check.specs.Keys.{leaf_of_key}
use Rattle.plain_values.specs.Sites.{scene_of_view}
use Rattle.plain_values.proofs.Numbers.{or_of}
use Rattle.plain_values.proofs.Settings.{left_of_two}
use Rattle.plain_values.proofs.setting.set_by_connect.Goals as goal

pub returns : goal.returns
returns c =
    let scene = scene_of_view c.args.view.now in
    let leaf = leaf_of_key c.args.leaf.now in
    let left = c.args.left.now in
    let right = c.args.right.now in
    let plain : option_map integer_of c.in_ok-plain.plain ≡ left_in leaf None (set_at false (spot_of scene left) (value right scene)) =
    c.in_ok-plain.ensures ∙ ap₂ (λ s vs. left_in leaf None (set_at false s vs)) c.in_ok-left_spot.ensures (c.as_slice.ensures ∙ c.in_ok-from_right.ensures) in
    let turned : option_map integer_of c.in_ok-turned.turned ≡ left_in leaf None (set_at true (spot_of scene right) (value left scene)) =
    c.in_ok-turned.ensures ∙ ap₂ (λ s vs. left_in leaf None (set_at true s vs)) c.in_ok-right_spot.ensures (c.as_slice-2.ensures ∙ c.in_ok-from_left.ensures) in
    ap (option_map integer_of) c.or.ensures
    ∙ (or_of integer_of c.in_ok-turned.turned c.in_ok-plain.plain
    ∙ left_of_two leaf (set_at false (spot_of scene left) (value right scene)) (set_at true (spot_of scene right) (value left scene)) (option_map integer_of c.in_ok-plain.plain) (option_map integer_of c.in_ok-turned.turned) plain turned)
