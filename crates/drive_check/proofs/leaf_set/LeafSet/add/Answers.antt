use Rattle.std.proofs.Common.{◌∙◌, ap}
use Rattle.drive_check.specs.Keys.{is_among}
use Rattle.drive_check.proofs.KeyTests.{all_more}
use Rattle.drive_check.proofs.leaf_set.LeafSet.add.Goals as goal

pub returns : goal.returns
returns c = λ leaf. ap (λ keys. is_among keys leaf) c.in_ok-append.ensures.keys ∙ all_more c.args.self.now.keys.keys c.args.other.keys.keys leaf
