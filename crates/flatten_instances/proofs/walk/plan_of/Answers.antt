use Rattle.std.proofs.Common.{[], refl, sym, subst}
use Rattle.flatten_instances.specs.Plans.{IsSound, at_main}
use Rattle.flatten_instances.proofs.Visiting.{main_is_sound, planned}
use Rattle.flatten_instances.proofs.walk.plan_of.Goals as goal

pub visit-requires-clause-sound : goal.visit-requires-clause-sound
visit-requires-clause-sound c = subst (IsSound c.args.driven.now c.args.driven.now.main) (sym c.len.ensures) (main_is_sound c.args.driven.now c.requires)

pub returns : goal.returns
returns c =
    planned c.args.driven.now _ (record { levels = c.new.result; tables = c.new-2.result; leaves = c.new-3.result; memories = c.new-4.result }) c.visit.new.plan refl c.new.ensures c.new-3.ensures c.new-4.ensures
    (c.in_ok-visit.ensures.on [] (at_main refl refl c.new-5.ensures))
