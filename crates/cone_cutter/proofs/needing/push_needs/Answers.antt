use Rattle.std.proofs.Common.{◌≡◌, ◌++◌, Some, slice_get, sym, ap, ◌∙◌}
use Rattle.ground_net.specs.Cones.{needs, needs_of_memory, memory_needs}
use Rattle.comb_order.specs.Spreads.{assignments_among}
use Rattle.comb_order.proofs.Making.{ok_then, tells_by, tells_leaves}
use Rattle.cone_cutter.specs.Rows.{sink_of}
use Rattle.cone_cutter.proofs.needing.push_needs.Goals as goal

pub returns-in-Some-get : goal.returns-in-Some-get
returns-in-Some-get c =
    let net = c.args.net.now in
    let memory = c.in-Some-get.memory.now in
    let there : slice_get c.args.net.now.memories c.in-Memory.place ≡ Some c.in-Some-get.memory.now = sym c.in-Some-get.ensures.value in
    ok_then c.push_memory.result c.push_memory.ensures
    (λ e. tells_by net.leaves (needs net (sink_of c.args.sink)) (memory_needs memory) c.args.spread.now c.args.row.now c.args.spread.now c.push_memory.new.row
    (tells_leaves net.leaves c.args.spread.now (memory_needs memory) c.args.row.now c.push_memory.new.row c.requires (e ∙ ap (λ l. c.args.row.now ++ assignments_among l (memory_needs memory)) c.as_slice-leaves.ensures))
    (ap (λ s. needs net (sink_of s)) c.in-Memory.is ∙ ap needs_of_memory there))
