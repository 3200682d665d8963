use Rattle.std.proofs.Common.{◌≡◌, ◌<◌, None, rules, ap, ◌∙◌, length, arith, replicate}
use Rattle.std.proofs.lemmas.List.{length-replicate}
use Rattle.flatten_instances.proofs.RegisterTables.{blank_table, length_noted, table_noted}
use Rattle.flatten_instances.proofs.registers.register_table.Goals as goal

pub loop-place-init : goal.loop-place-init
loop-place-init c =
    let is : c.from_vec-table.result ≡ replicate c.len.result None = search rules in
    record {
      counted = ap length is ∙ (length-replicate c.len.result None ∙ c.len.ensures);
      is = blank_table c.args.owner.now.registers c.len.result c.from_vec-table.result is;
    }

pub loop-place-preserved : goal.loop-place-preserved
loop-place-preserved c =
    let lt : c.loop-place.place < length c.as_slice.result.now = omega (arith, c.loop-place-test.true, c.len-place-end.ensures, ap length c.as_slice.ensures) in
    record {
      counted = length_noted _ c.loop-place.table c.note.new.table _ _ c.note.ensures ∙ c.loop-place.invariant.counted;
      is = table_noted c.args.owner.now.registers c.as_slice.result.now c.loop-place.place c.in_ok-number.number c.index-as_slice-place.result c.loop-place.table c.note.new.table c.as_slice.ensures lt
          c.in_ok-number.ensures c.loop-place.invariant.is c.note.ensures;
    }
