use Rattle.std.proofs.Common.{◌∙◌, ap}
use Rattle.bit_words.specs.Values.{integer_of}
use Rattle.fir_meaning.specs.States.{or_else}
use Rattle.drive_check.specs.Keys.{leaf_of_key}
use Rattle.plain_values.specs.Sites.{scene_of_view}
use Rattle.plain_values.proofs.Nexts.{kept, next_is}
use Rattle.plain_values.proofs.register.next_of_register.Goals as goal

pub returns : goal.returns
returns c = λ d clock n b.
    ap integer_of c.unwrap_or.ensures
    ∙ (kept c.in_ok-next.next c.args.held
    ∙ (ap (or_else (integer_of c.args.held)) c.in_ok-next.ensures
    ∙ next_is (scene_of_view c.args.view.now) (leaf_of_key c.args.leaf.now) d clock c.args.register.now.block.now c.args.register.now.reset (integer_of c.args.held) n b))
