use Rattle.std.proofs.Common.{subst, sym, take}
use Rattle.std.proofs.lemmas.List.{take_all}
use Rattle.std.proofs.lemmas.List.Elements.{All-get_or}
use Rattle.type_index.specs.Gathering.{Gathers}
use Rattle.type_index.specs.Ports.{IsPortField}
use Rattle.type_index.proofs.Built.{gathers_taken}
use Rattle.type_index.proofs.memories.gather_fields.Goals as goal

pub loop-field-init : goal.loop-field-init
loop-field-init c = λ element mask all keeps. (c.new-gathered.ensures c.args.names.now, keeps)

pub loop-field-preserved : goal.loop-field-preserved
loop-field-preserved c = λ element mask all keeps.
    let before = c.loop-field.invariant element mask all keeps in
    let own = subst (IsPortField element mask) (sym c.field-item.is)
    (All-get_or (IsPortField element mask) c.args.fields.now c.loop-field.field-index c.field-item.result c.loop-field-test.true all) in
    let part = c.in_ok-part.ensures element mask own before.1 in (
      gathers_taken c.args.names.now c.args.fields.now c.loop-field.field-index c.field-item.result c.push.new.self c.loop-field-test.true c.field-item.is
          (c.in_ok-push.ensures (take c.loop-field.field-index c.args.fields.now) before.0 part.0),
      part.1,
    )

pub returns : goal.returns
returns c = λ element mask all keeps.
    let last = c.loop-field.invariant element mask all keeps in
    (subst (λ fields. Gathers c.args.names.now fields c.loop-field.gathered) (take_all c.loop-field.field-index c.args.fields.now c.loop-field-test.false) last.0, last.1)
