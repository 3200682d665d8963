use Rattle.std.proofs.Common.{map, refl, subst, ap, ◌∙◌}
use Rattle.ground_net.specs.Cones.{sinks}
use Rattle.comb_order.proofs.Making.{spread_grown}
use Rattle.cone_cutter.specs.declared.rows.NetRows.{NetRows}
use Rattle.cone_cutter.specs.Rows.{sink_of, TellsNeeds}
use Rattle.cone_cutter.proofs.NeedRows.{are_rows, reads_are, needs_are}
use Rattle.cone_cutter.proofs.rows.NetRows.new.Goals as goal

pub returns : goal.returns
returns c =
    let net = c.args.net.now in
    let watch = c.args.watch.now in
    let old = c.in_ok-spread.spread in
    let new = c.needs_of.new.spread in
    let all = ap (map sink_of) c.as_slice.ensures.value ∙ c.in_ok-sinks.ensures in
    let needed = subst (λ s. TellsNeeds c.args.net.now s c.in_ok-spread.spread c.needs_of.new.spread c.in_ok-needed.needed.items) all c.in_ok-needed.ensures in
    let rows : NetRows = record { leaves = c.len.result; sinks = c.in_ok-sinks.sinks; reads = c.needs_of.new.spread.rows; needed = c.in_ok-needed.needed } in
    let spread = spread_grown net old new c.in_ok-spread.ensures.spread needed.begun needed.grows in
    record {
      rows = are_rows net rows c.len.ensures spread needed.inside;
      leaves = c.len.ensures;
      sinks = c.in_ok-sinks.ensures;
      reads = reads_are net rows c.len.ensures spread;
      needed = needs_are net rows (sinks net watch) old new c.len.ensures refl needed;
    }
