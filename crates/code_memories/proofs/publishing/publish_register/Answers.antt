use Rattle.std.proofs.Common.{◌≡◌, Some, slice_get, [], ◌∷◌, sym, subst, ap, ◌∙◌}
use Rattle.ground_net.specs.Reads.{driver_of}
use Rattle.ground_net.specs.Cones.{A_register}
use Rattle.ground_net.specs.Shapes.{shape}
use Rattle.code_memories.specs.Nexts.{next_ground}
use Rattle.code_emit.specs.Emits.{sources_table}
use Rattle.code_draft.specs.Publishing.{Publishes}
use Rattle.partition_code.specs.Effects.{register_shape}
use Rattle.code_memories.specs.Telling.{PublishesSinks}
use Rattle.code_memories.proofs.NextWords.{some_same, on_ok_so, one_register}
use Rattle.flat_code.specs.Fine.{location_slots}
use Rattle.code_draft.specs.Segments.{Segment}
use Rattle.code_emit.specs.Spans.{EvaluatesAll}
use Rattle.code_memories.specs.SinkGroups.{register_groups}
use Rattle.code_memories.proofs.RegisterEvaluating.{register_evaluated}
use Rattle.code_memories.proofs.publishing.publish_register.Goals as goal

pub returns-clause-publishes : goal.returns-clause-publishes
returns-clause-publishes c =
    let net = c.args.net.now in
    let S = c.args.sources.now in
    let table = sources_table S in
    let n = c.args.numbers.0 in
    let register = c.in-Some.register.now in
    let next = c.in_ok-next.next in
    let s = c.in_ok-location.location in
    let old = c.args.draft.now in
    let mid = c.emit.new.draft in
    let new = c.publish.new.draft in
    let found : slice_get net.registers n ≡ Some register = sym c.in-Some.ensures.value in
    let same = some_same (sym c.requires.shaped.there ∙ found) in
    let known : shape (next_ground register (driver_of net register.leaf)) table ≡ Some (register_shape net register)
    = subst (λ r. shape (next_ground r (driver_of net r.leaf)) table ≡ Some (register_shape net r)) same c.requires.shaped.shaped in
    let shaped : shape next table ≡ Some (register_shape net register) = ap (λ g. shape g table) c.in_ok-next.ensures.itself ∙ known in
    on_ok_so (Publishes mid new c.args.numbers.1 s) (PublishesSinks net S (A_register n ∷ []) old new) c.publish.result c.publish.ensures.publishes (λ publishes.
    one_register net S n register next old mid new s c.args.numbers.1 found shaped c.in_ok-next.ensures.value c.in_ok-location.ensures.shape c.in_ok-location.ensures.emits publishes c.requires.word)

pub returns-clause-evaluates : goal.returns-clause-evaluates
returns-clause-evaluates c =
    let net = c.args.net.now in
    let S = c.args.sources.now in
    let n = c.args.numbers.0 in
    let register = c.in-Some.register.now in
    let s = c.in_ok-location.location in
    let old = c.args.draft.now in
    let mid = c.emit.new.draft in
    let new = c.publish.new.draft in
    let found : slice_get net.registers n ≡ Some register = sym c.in-Some.ensures.value in
    on_ok_so (Segment mid new (location_slots s) [] 0) (EvaluatesAll S (register_groups net n) old new) c.publish.result c.publish.ensures.segment (λ told.
    register_evaluated net S n register c.in_ok-next.next old mid new s found c.in_ok-next.ensures.itself c.in_ok-location.ensures.spans told)
