use Rattle.std.proofs.Common.{ap, ◌∙◌, ◌+◌, ◌*◌, length, subst, sym, All}
use Rattle.std.proofs.lemmas.List.{length_push}
use Rattle.std.proofs.lemmas.List.Elements.{All-push}
use Rattle.flat_code.specs.Fine.{IsFine}
use Rattle.firsim_bench.proofs.codes.mix.instrs_of.Goals as goal

pub loop-number-preserved : goal.loop-number-preserved
loop-number-preserved c = record {
  count = ap length c.in_ok-push.ensures.ok ∙ (length_push c.loop-number.all c.instr_of.result ∙ ap (λ n. n + 1) c.loop-number.invariant.count);
  fine = subst (All (IsFine (20 * c.args.blocks) 4096 c.args.blocks c.args.blocks)) (sym c.in_ok-push.ensures.ok)
      (All-push (IsFine (20 * c.args.blocks) 4096 c.args.blocks c.args.blocks) c.loop-number.all c.instr_of.result c.loop-number.invariant.fine c.instr_of.ensures);
}
