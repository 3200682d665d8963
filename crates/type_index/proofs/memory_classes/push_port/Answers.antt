use Rattle.type_index.specs.Sights.{table_of}
use Rattle.type_index.proofs.Ports.{port_added}
use Rattle.type_index.proofs.memory_classes.push_port.Goals as goal

pub returns : goal.returns
returns c = λ yes element depth fields own all.
    port_added (table_of c.args.classes.now) element depth c.args.line.now _ c.in-MemPort.mode c.in-MemPort.name fields c.args.ports.now.items c.push.new.self.items
    c.in_ok-parts.parts.items c.in-Some.class c.in-MemPort.is (c.in_ok-parts.ensures (table_of c.args.classes.now) element depth c.in-MemPort.name.place own)
    (rw c.deref.ensures.value at c.in-Some.ensures) c.in_ok-push.ensures.items all
