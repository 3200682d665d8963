use Rattle.std.proofs.Common.{◌≡◌, ◌∙◌, ap₂, filter_map}
use Rattle.fir_types.specs.Memories.{element_of, element_in, first_or}
use Rattle.type_index.specs.declared.memory_classes.Elements.{Elements}
use Rattle.type_index.specs.Sights.{table_of}
use Rattle.type_index.proofs.Ports.{memory_has}
use Rattle.type_index.proofs.classes.Classes.number_memory.Goals as goal

pub returns : goal.returns
returns c =
    let memory = c.args.memory.now in
    let elements : Elements = record { element = c.in-Some.element; mask = c.in-Some-2.mask } in
    let is : c.element_of-typ.result.now ≡ element_of memory =
    c.element_of-typ.ensures ∙ ap₂ (λ o ls. first_or o (filter_map element_in ls)) c.in_ok-empty.ensures c.as_slice-lines.ensures in
    memory_has (table_of c.args.self.now) memory c.as_slice-lines.result.now c.element_of-typ.result.now elements c.in-Some-3.ports.items c.number_parts.result
    c.as_slice-lines.ensures is (rw c.in-Some.is at c.in_ok-element.ensures) (rw c.in-Some-2.is at c.in_ok-mask.ensures) (rw c.in-Some-3.is at c.in_ok-ports.ensures)
    (rw c.deref.ensures.value at c.number_parts.ensures)
