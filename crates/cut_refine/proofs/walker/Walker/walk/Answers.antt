use Rattle.std.proofs.Common.{◌≡◌, ◌+◌, ◌<◌, length, slice_index, refl, sym, subst, ap, ◌∙◌, arith, get_or}
use Rattle.std.specs.List.{All}
use Rattle.cone_cutter.specs.Cuts.{Lists}
use Rattle.cone_cutter.specs.Rows.{row_at, reads_in, Met}
use Rattle.cone_cutter.specs.Walks.{FindsCone}
use Rattle.cone_cutter.proofs.Walks.{row_is, row_below}
use Rattle.cone_cutter.proofs.Wide.{need_in}
use Rattle.cone_cutter.proofs.LoadSteps.{refilled}
use Rattle.cut_refine.proofs.walker.Walker.walk.Goals as goal

pub walk_cone-requires-clause-roots : goal.walk_cone-requires-clause-roots
walk_cone-requires-clause-roots c =
    let rows = c.args.rows.now in
    let sink = c.args.sink in
    let is = c.index-needed-sink.is ∙ ap (λ s. get_or s sink c.index-needed-sink.result) c.as_slice-needed.ensures.value in
    let below = row_below rows.needed.items (length rows.reads.items) sink c.index-needed-sink.result c.requires.rows.are.needs_inside c.requires.sink is in
    let long : length c.args.rows.now.reads.items ≡ length c.as_mut_slice-stamps.result.now = sym (ap length c.as_mut_slice-stamps.ensures.value ∙ c.requires.ready.long) in
    subst (λ n. All (λ x. x < n) c.as_slice-roots.result.now) long (subst (All (λ x. x < length c.args.rows.now.reads.items)) (sym c.as_slice-roots.ensures) below)

pub returns : goal.returns
returns c =
    let rows = c.args.rows.now in
    let sink = c.args.sink in
    let stamps = c.args.self.now.stamps in
    let value = c.as_mut_slice-stamps.ensures.value in
    let is = c.index-needed-sink.is ∙ ap (λ s. get_or s sink c.index-needed-sink.result) c.as_slice-needed.ensures.value in
    let at : c.as_slice-roots.result.now ≡ row_at c.args.rows.now.needed.items c.args.sink = c.as_slice-roots.ensures ∙ row_is rows.needed.items sink c.index-needed-sink.result c.requires.sink is in
    let cone = subst (λ r. FindsCone c.args.rows.now r (c.args.self.now.turn + 1) c.as_mut_slice-stamps.result.now c.walk_cone.new.stamps c.walk_cone.new.found.items) at c.in_ok-walk_cone.ensures in
    let items = refilled stamps c.walk_cone.new.stamps (cone.long ∙ ap length value) in
    record {
      ready = record {
        long = ap length items ∙ (cone.long ∙ (ap length value ∙ c.requires.ready.long));
        early = λ v. omega (arith, ap (λ s. slice_index s v) items, cone.early v);
      };
      turn = refl;
      listed = subst (λ r. Lists (Met (reads_in c.args.rows.now) r) c.walk_cone.new.found.items) (sym (need_in rows sink)) cone.listed;
      below = cone.within;
    }
