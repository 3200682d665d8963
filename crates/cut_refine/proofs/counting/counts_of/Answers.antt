use Rattle.std.proofs.Common.{◌<◌, length, take, slice_index, sym, subst, arith, ⊎_elim}
use Rattle.std.specs.List.{All}
use Rattle.std.proofs.lemmas.List.{take_more}
use Rattle.std.proofs.lemmas.List.Elements.{Contains-get_or}
use Rattle.cut_refine.specs.Standing.{cone_of, AreCounts, Raises}
use Rattle.cut_refine.proofs.Sets.{in_list}
use Rattle.cut_refine.proofs.Tallies.{counts_more, fresh_at}
use Rattle.cut_refine.proofs.counting.counts_of.Goals as goal

pub raise-requires-clause-within : goal.raise-requires-clause-within
raise-requires-clause-within c =
    let walked = c.in_ok-walk.ensures in
    subst (All (λ x. x < length c.loop-sink.counts)) (sym c.as_slice-cone.ensures.value)
    (λ k d lt. omega (arith, walked.below _ (Contains-get_or c.walk.new.self.found.items k d lt), c.loop-sink.invariant.counts.long))

pub loop-sink-preserved : goal.loop-sink-preserved
loop-sink-preserved c =
    let inv = c.loop-sink.invariant in
    let sinks = c.args.sinks.now in
    let i = c.loop-sink.sink-index in
    let sink = slice_index c.args.sinks.now c.loop-sink.sink-index in
    let found = c.walk.new.self.found.items in
    let walked = c.in_ok-walk.ensures in
    let raised = subst (λ s. Raises s c.loop-sink.counts c.raise.new.counts) c.as_slice-cone.ensures.value c.raise.ensures in
    record {
      counts = subst (λ s. AreCounts (cone_of c.args.rows.now) c.args.rows.now.leaves s c.raise.new.counts) (sym (take_more sinks i 0 c.loop-sink-test.true))
          (counts_more (cone_of c.args.rows.now) c.args.rows.now.leaves (take i sinks) c.loop-sink.counts c.raise.new.counts found sink inv.counts walked.listed raised (fresh_at sinks i c.requires.once c.loop-sink-test.true));
      small = λ x. ⊎_elim (λ d. omega (arith, raised.got x d, inv.small x)) (λ n. omega (arith, raised.others x n, inv.small x)) (in_list found x);
      ready = walked.ready;
      turn = omega (arith, walked.turn, inv.turn);
    }
