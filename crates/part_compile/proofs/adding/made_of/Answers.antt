use Rattle.std.proofs.Common.{◌≡◌, ℕ, List, ◌<◌, length, take, slice_get, slice_index, slice_index_or, subst, ap, refl, false, true, IsSome, Some, arith}
use Rattle.std.proofs.lemmas.List.{take_all}
use Rattle.std.proofs.lemmas.Option.{slice_get_read}
use Rattle.ground_net.specs.Cones.{sinks}
use Rattle.cone_cutter.specs.declared.sinks.SinkAt.{SinkAt}
use Rattle.cone_cutter.specs.Rows.{sink_of}
use Rattle.part_compile.specs.PartRows.{SoFar}
use Rattle.part_compile.proofs.Making.{none_so_far}
use Rattle.part_compile.proofs.OneByOne.{sink_there, number_within, part_has, cone_known, ready_so_far, sinks_more}
use Rattle.part_compile.proofs.Filtered.{to_filter}
use Rattle.part_compile.proofs.Told.{told_none, told_more}
use Rattle.part_compile.proofs.adding.made_of.Goals as goal

at_number : (sinks : List SinkAt) (i : ℕ) (sink : SinkAt) → i < length sinks → sink ≡ slice_index_or sinks i sink → slice_get sinks i ≡ Some sink
at_number sinks i sink below is = slice_get_read sinks (length sinks) i sink refl below is

pub loop-number-init : goal.loop-number-init
loop-number-init c =
    let net = c.args.work.now.plan.now.net.now in
    let watch = c.args.work.now.plan.now.watch.now in
    let S = c.args.work.now.sources.now in (
      none_so_far net watch S c.args.draft _ c.requires.ready.0 c.requires.ready.1 refl c.new.ensures c.new-2.ensures c.new-3.ensures,
      (λ found. told_none net c.requires.plan.is_net watch c.args.part.now S c.args.draft found _ refl c.new.ensures),
    )

pub unreachable-requires : goal.unreachable-requires
unreachable-requires c =
    let net = c.args.work.now.plan.now.net.now in
    let watch = c.args.work.now.plan.now.watch.now in
    let xs = c.as_slice-number-items.result.now in
    let i = c.loop-number.number-index in
    let test = c.loop-number-test.true in
    let below : i < length xs = omega (arith, test) in
    let within = number_within net watch c.args.sinks.now (slice_index xs i) c.requires.sinks (c.requires.part.within (slice_index xs i) (part_has c.args.part.now xs i c.as_slice-number-items.ensures below)) in
    let none : false ≡ true = subst (λ r. IsSome r) c.in_default.is (c.get.ensures.lookup.2 within) in
    cc

pub add_sink-requires-clause-known : goal.add_sink-requires-clause-known
add_sink-requires-clause-known c =
    let net = c.args.work.now.plan.now.net.now in
    let watch = c.args.work.now.plan.now.watch.now in
    let xs = c.as_slice-number-items.result.now in
    let i = c.loop-number.number-index in
    let test = c.loop-number-test.true in
    let below : i < length xs = omega (arith, test) in
    cone_known net watch c.args.part.now c.args.work.now.sources.now (slice_index xs i) (sink_of c.in-Some.sink.now) c.requires.part (part_has c.args.part.now xs i c.as_slice-number-items.ensures below)
    (sink_there net watch c.args.sinks.now (slice_index xs i) c.in-Some.sink.now c.requires.sinks (at_number c.args.sinks.now (slice_index c.as_slice-number-items.result.now c.loop-number.number-index) c.in-Some.sink.now c.in-Some.ensures.lookup.3.0 c.in-Some.ensures.lookup.1))

pub add_sink-requires-clause-ready : goal.add_sink-requires-clause-ready
add_sink-requires-clause-ready c =
    ready_so_far c.args.work.now.plan.now.net.now c.args.work.now.plan.now.watch.now c.args.work.now.sources.now c.args.draft (take c.loop-number.number-index c.args.part.now.sinks) c.loop-number.made c.requires.ready c.loop-number.invariant.0

pub add_sink-requires-clause-there : goal.add_sink-requires-clause-there
add_sink-requires-clause-there c =
    sink_there c.args.work.now.plan.now.net.now c.args.work.now.plan.now.watch.now c.args.sinks.now _ c.in-Some.sink.now c.requires.sinks (at_number c.args.sinks.now (slice_index c.as_slice-number-items.result.now c.loop-number.number-index) c.in-Some.sink.now c.in-Some.ensures.lookup.3.0 c.in-Some.ensures.lookup.1)

pub loop-number-preserved : goal.loop-number-preserved
loop-number-preserved c =
    let net = c.args.work.now.plan.now.net.now in
    let watch = c.args.work.now.plan.now.watch.now in
    let part = c.args.part.now in
    let S = c.args.work.now.sources.now in
    let xs = c.as_slice-number-items.result.now in
    let i = c.loop-number.number-index in
    let test = c.loop-number-test.true in
    let below : i < length xs = omega (arith, test) in
    let sink = sink_of c.in-Some.sink.now in
    let there = sink_there net watch c.args.sinks.now (slice_index xs i) c.in-Some.sink.now c.requires.sinks (at_number c.args.sinks.now (slice_index xs i) c.in-Some.sink.now c.in-Some.ensures.lookup.3.0 c.in-Some.ensures.lookup.1) in
    let had = c.loop-number.invariant in (
      sinks_more net watch S c.args.draft part.sinks xs i sink c.loop-number.made c.add_sink.new.made c.as_slice-number-items.ensures below there had.0 c.in_ok-add_sink.ensures.adds,
      (λ found. told_more net c.requires.plan.is_net watch part S c.args.draft found sink c.loop-number.made c.add_sink.new.made
          (to_filter (slice_get (sinks net watch)) part.sinks (slice_index xs i) sink (part_has part xs i c.as_slice-number-items.ensures below) there) had.0.tells.slots c.in_ok-add_sink.ensures.evaluates (had.1 found)),
    )

pub returns-clause-so_far : goal.returns-clause-so_far
returns-clause-so_far c =
    let test = c.loop-number-test.false in
    let same = ap length c.as_slice-number-items.ensures in
    subst (λ ks. SoFar c.args.work.now.plan.now.net.now c.args.work.now.plan.now.watch.now c.args.work.now.sources.now c.args.draft ks c.loop-number.made) (take_all c.loop-number.number-index c.args.part.now.sinks (omega (arith, test, same))) c.loop-number.invariant.0

pub returns-clause-pieces : goal.returns-clause-pieces
returns-clause-pieces c = c.loop-number.invariant.1
