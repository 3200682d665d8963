use Rattle.std.proofs.Common.{rules, sym, ap, ◌∙◌, map, subst}
use Rattle.std.specs.Global.{Vec}
use Rattle.drive_check.specs.declared.leaf_set.LeafKey.{LeafKey}
use Rattle.fir_meaning.specs.Mentions.{region_of}
use Rattle.drive_check.specs.HeldTypes.{types_in}
use Rattle.drive_check.specs.Keys.{leaf_of_key}
use Rattle.clock_check.specs.Driving.{Reaches}
use Rattle.clock_check.proofs.Settings.{none_named}
use Rattle.clock_check.proofs.reach.named.Goals as goal
use Rattle.clock_check.proofs.reach.named.Goals.{in-Some+in_ok-push_named, in_default}

pub returns : goal.returns
returns c = elim c.match-branch-2.branch [
  | in-Some+in_ok-push_named w ↦ search rules
  | in_default w ↦
      ap (λ (k : Vec LeafKey). map leaf_of_key k.items) w.keys-is ∙ ap (map leaf_of_key) c.new-keys.ensures.items
      ∙ sym (none_named (region_of (types_in c.args.types.now) c.args.expr.now) (subst (Reaches (region_of (types_in c.args.types.now) c.args.expr.now)) w.in_default.is c.in_ok-reach.ensures))
]
