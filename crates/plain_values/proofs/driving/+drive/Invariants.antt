use Rattle.std.proofs.Common.{◌≡◌, map, take, option_map}
use Rattle.bit_words.specs.Values.{integer_of}
use Rattle.fir_meaning.specs.Drives.{effect, in_turn}
use Rattle.drive_check.specs.Keys.{leaf_of_key}
use Rattle.plain_values.specs.Sites.{scene_of_view}
use Rattle.plain_values.proofs.driving.+drive.Given as goal

abbrev pub invariant-after_block-loop-statement : goal.invariant-after_block-loop-statement
invariant-after_block-loop-statement l = option_map integer_of l.last ≡ in_turn (map (effect (scene_of_view l.view) (leaf_of_key l.leaf)) (take l.statement-index l.block)) (option_map integer_of l.fn.before)
