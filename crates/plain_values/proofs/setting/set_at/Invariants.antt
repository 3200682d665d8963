use Rattle.std.proofs.Common.{◌≡◌, map, take, option_map}
use Rattle.bit_words.specs.Values.{integer_of}
use Rattle.drive_check.specs.Keys.{leaf_of_key, step_of}
use Rattle.plain_values.proofs.Settings.{left_along}
use Rattle.plain_values.proofs.setting.set_at.Given as goal

abbrev pub invariant-loop-at : goal.invariant-loop-at
invariant-loop-at l = option_map integer_of l.set ≡ left_along (leaf_of_key l.leaf) l.flip l.place.component (map step_of l.way) (take l.at l.parts) l.values
