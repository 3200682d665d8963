use Rattle.std.proofs.Common.{rules, arith, ◌≡◌, ap, ◌∙◌, map, subst}
use Rattle.std.proofs.lemmas.Grind.{common_steps}
use Rattle.reset_resolution.specs.Walked.{AreInstances, ported}
use Rattle.reset_resolution.proofs.Whole.{exactly}
use Rattle.reset_resolution.proofs.gathering.feeds_of.Goals as goal

pub returns : goal.returns
returns c =
    let all = map ported c.in_ok-modules.modules.items in
    let instances : AreInstances all c.in_ok-instances.instances.entries
    = subst (λ ms. AreInstances (map ported ms) c.in_ok-instances.instances.entries) c.as_slice-2.ensures.value c.in_ok-instances.ensures in
    exactly c.args.circuit.now c.as_slice.result.now all c.in_ok-instances.instances.entries c.with_ports.new.next c.new-2.result c.walk_bodies.new.found.feeds c.push-2.new.self
    c.walk_bodies.new.found.asyncs c.as_slice.ensures c.in_ok-modules.ensures.modules instances (search rules) (search rules) (search rules) c.in_ok-walk_bodies.ensures.feeds c.in_ok-walk_bodies.ensures.asyncs
