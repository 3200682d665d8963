use Rattle.std.proofs.Common.{◌∙◌, sym, ap, refl}
use Rattle.fir_types.proofs.Layers.{count-bundle}
use Rattle.fir_types.proofs.Runs.{element_falls}
use Rattle.fir_tree.specs.Caps.{cap}
use Rattle.fir_tree.proofs.Wording.{ways-bundle, leaves_on, bytes_on, bytes_around}
use Rattle.fir_tree.proofs.name_sizes.+ways.Goals as goal

pub ways_of-loop-inside-preserved : goal.ways_of-loop-inside-preserved
ways_of-loop-inside-preserved t c =
    let inside = c.loop-inside.inside.now in
    let at = c.in-Vector.is in
    rw (c.get-inside.ensures) (record {
      leaves = leaves_on c.args.typ.now inside _ c.in-Vector.length c.loop-inside.run.elements _ at c.loop-inside.invariant.leaves c.longer-run.ensures.elements;
      bytes = bytes_on c.args.names.now c.args.typ.now inside _ c.in-Vector.length c.loop-inside.run.elements c.loop-inside.run.indices _ _ at c.loop-inside.invariant.bytes
          c.longer-run.ensures.elements c.longer-run.ensures.indices;
      inner = element_falls inside _ _ _ at c.loop-inside.invariant.inner;
    })

pub ways_of-returns-in-Bundle-clause-bytes : goal.ways_of-returns-in-Bundle-clause-bytes
ways_of-returns-in-Bundle-clause-bytes t c =
    let inside = c.loop-inside.inside.now in
    let leaves = rw c.as_slice.ensures at c.ways_of_fields.ensures.leaves ∙ sym (ap cap (count-bundle inside c.in-Bundle.fields c.in-Bundle.is)) in
    let bytes = rw c.as_slice.ensures at c.ways_of_fields.ensures.bytes ∙ sym (ap cap (ways-bundle c.args.names.now inside c.in-Bundle.fields c.in-Bundle.is)) in
    bytes_around c.args.names.now c.args.typ.now inside c.loop-inside.run.elements c.loop-inside.run.indices c.ways_of_fields.result.leaves c.ways_of_fields.result.bytes _
    c.loop-inside.invariant.bytes leaves bytes c.around.ensures.bytes

pub ways_of_field-returns-clause-bytes : goal.ways_of_field-returns-clause-bytes
ways_of_field-returns-clause-bytes t c = c.named.ensures.bytes c.args.field.now refl c.ways_of.ensures.leaves c.ways_of.ensures.bytes
