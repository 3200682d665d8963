use Rattle.std.proofs.Common.{ap, ◌∙◌, ◌+◌, ◌*◌, length, subst, sym, All}
use Rattle.std.proofs.lemmas.List.{length_push}
use Rattle.std.proofs.lemmas.List.Elements.{All-push}
use Rattle.flat_code.specs.Fine.{IsWide}
use Rattle.firsim_bench.proofs.codes.mix.wides_of.Goals as goal

pub loop-block-preserved : goal.loop-block-preserved
loop-block-preserved c = record {
  count = ap length c.in_ok-push.ensures.ok ∙ (length_push c.loop-block.all c.in_ok-wide_of.field-0 ∙ ap (λ n. n + 1) c.loop-block.invariant.count);
  fine = subst (All (IsWide (20 * c.args.blocks) 4096)) (sym c.in_ok-push.ensures.ok)
      (All-push (IsWide (20 * c.args.blocks) 4096) c.loop-block.all c.in_ok-wide_of.field-0 c.loop-block.invariant.fine c.in_ok-wide_of.ensures);
}
