use Rattle.std.proofs.Common.{◌++◌, ap₂, refl, ◌∙◌, append-nil}
use Rattle.flatten_instances.proofs.Lists.{item_read}
use Rattle.flatten_instances.proofs.Sites.{flat_leaf, leaf_within}
use Rattle.flatten_instances.proofs.leaves.leaf_at.Goals as goal

pub returns : goal.returns
returns c = λ s site.
    let level = c.level_of-level.result.now in
    let owner = c.module_of-owner.result.now in
    let within = leaf_within c.args.driven.now c.args.plan.now s c.args.site site level c.level_of-level.ensures owner c.module_of-owner.ensures in
    flat_leaf c.args.driven.now c.args.plan.now s c.args.site site level c.level_of-level.ensures owner c.index-as_slice-site.result _ c.module_of-owner.ensures
    (item_read c.as_slice.result.now owner.leaves c.args.site.number c.index-as_slice-site.result c.as_slice.ensures within c.index-as_slice-site.is)
    (c.in_ok-name.ensures ∙ ap₂ (λ a b. a ++ b) c.as_slice-2.ensures (append-nil c.as_slice-3.result.now ∙ c.as_slice-3.ensures)) refl refl refl c.flat_role.ensures
