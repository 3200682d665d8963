use Rattle.std.proofs.Common.{subst, filter_map, take}
use Rattle.std.proofs.lemmas.List.{take_all}
use Rattle.fir_types.specs.Bundles.{port_field}
use Rattle.type_index.specs.Parts.{AreParts, no_parts}
use Rattle.type_index.specs.Sights.{table_of}
use Rattle.type_index.proofs.Ports.{ports_more}
use Rattle.type_index.proofs.memory_classes.ports_of.Goals as goal

pub loop-line-init : goal.loop-line-init
loop-line-init c = λ element depth own. rw c.new-ports.ensures.items no_parts

pub loop-line-preserved : goal.loop-line-preserved
loop-line-preserved c = λ element depth own.
    ports_more (table_of c.args.classes.now) element depth c.args.lines.now c.loop-line.line-index c.line-item.result c.push_port.new.ports.items c.loop-line-test.true c.line-item.is
    (c.in_ok-push_port.ensures c.if-not-branch.false element depth (filter_map (port_field element depth) (take c.loop-line.line-index c.args.lines.now)) own
    (c.loop-line.invariant element depth own))

pub returns : goal.returns
returns c = λ element depth own.
    subst (λ lines. AreParts (table_of c.args.classes.now) (filter_map (port_field element depth) lines) c.loop-line.ports.items)
    (take_all c.loop-line.line-index c.args.lines.now c.loop-line-test.false) (c.loop-line.invariant element depth own)
