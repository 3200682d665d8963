use Rattle.std.proofs.Common.{◌≤◌, refl, sym, subst, ◌∙◌}
use Rattle.cone_cutter.proofs.Splitting.{is_split}
use Rattle.crew_run.specs.Runs.{AreWordsOf}
use Rattle.crew_run.proofs.run.Run.start_at.Goals as goal

pub compile-requires-clause-split : goal.compile-requires-clause-split
compile-requires-clause-split c = is_split c.args.ordered.now c.args.watch.now c.args.workers c.in_ok-parts.parts c.in_ok-parts.ensures

pub returns-clause-run : goal.returns-clause-run
returns-clause-run c = λ t at. (
  c.in_ok-parts.parts,
  c.in_ok-parts.ensures,
  record {
    of = refl;
    net = c.requires.may.net;
    order = c.requires.may.order;
    split = is_split c.args.ordered.now c.args.watch.now c.args.workers c.in_ok-parts.parts c.in_ok-parts.ensures;
    some = subst (λ n. 1 ≤ n) (sym c.in_ok-parts.ensures.count) c.requires.some;
    few = subst (λ n. n ≤ 64) (sym c.in_ok-parts.ensures.count) c.requires.few;
    codes_of = c.in_ok-codes.ensures.codes;
    at = subst (AreWordsOf c.args.ordered.now.net t) (sym (c.in_ok-words.ensures ∙ c.as_slice.ensures)) at;
  },
)
