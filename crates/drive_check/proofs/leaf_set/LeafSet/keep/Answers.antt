use Rattle.std.proofs.Common.{◌∙◌, ap, rules}
use Rattle.std.specs.List.{list_any}
use Rattle.std.proofs.lemmas.Fn.{filter_same}
use Rattle.drive_check.specs.Keys.{is_among}
use Rattle.drive_check.proofs.KeyTests.{key_eq, both_have}
use Rattle.drive_check.proofs.leaf_set.LeafSet.keep.Goals as goal

pub returns : goal.returns
returns c = λ leaf.
    ap (λ keys. is_among keys leaf) (filter_same _ (λ k. list_any (key_eq k) c.args.other.now.keys.keys) _ (λ x b f' t. search rules) _ _ c.retain.ensures.filtered)
    ∙ both_have c.args.self.now.keys.keys c.args.other.now.keys.keys leaf
