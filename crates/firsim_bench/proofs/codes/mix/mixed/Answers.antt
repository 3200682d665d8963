use Rattle.std.proofs.Common.{◌≡◌, ◌∙◌, ◌*◌, ◌≤◌, ℕ, List, [], length, arith, subst, sym, ap, All}
use Rattle.flat_code.specs.declared.instr.Location.{Location}
use Rattle.flat_code.specs.Meaning.{pushes}
use Rattle.flat_code.specs.Fine.{AreFine, IsLocation, ShownLast, nothing}
use Rattle.flat_code.specs.Runs.{AreRuns}
use Rattle.flat_code.proofs.Solving.{ready_if_single}
use Rattle.code_order.proofs.Finding.{single_of}
use Rattle.base_cases.proofs.Pushing.{pushes_few}
use Rattle.firsim_bench.proofs.codes.mix.mixed.Goals as goal

pub invariant_of-result : goal.invariant_of-result
invariant_of-result c =
    let b = c.args.blocks in
    let ports = c.in_ok-ports.ports in
    let wides = c.in_ok-wides.wides in
    let instrs = c.in_ok-instrs.instrs in
    let few = pushes_few instrs in
    let count = c.len-most.ensures in
    record {
      fine = subst (λ p. AreFine (20 * b) 4096 p (length wides) instrs) (sym c.in_ok-ports.ensures.count)
          (subst (λ w. AreFine (20 * b) 4096 b w instrs) (sym c.in_ok-wides.ensures.count) c.in_ok-instrs.ensures.fine);
      in_order = ready_if_single nothing ports wides instrs (single_of c.as_slice.ensures c.as_slice-2.ensures c.as_slice-3.ensures (c.in_ok-writes_once.ensures c.if-not-branch.false));
      ports_fine = c.in_ok-ports.ensures.fine;
      wides_fine = c.in_ok-wides.ensures.fine;
      shown_fine = subst (All (IsLocation (20 * b))) (sym c.new-2.ensures) (λ k d lt. absurd (omega arith));
      shown_last = subst (λ x. ShownLast wides x instrs) (sym c.new-2.ensures) (λ k d lt. absurd (omega arith));
      each_shown = ap (λ (x : List ℕ). length x) c.new-3.ensures ∙ sym (ap (λ (x : List Location). length x) c.new-2.ensures);
      at_most = omega (arith, few, count);
      once_there = omega arith;
      runs_right = subst (AreRuns instrs) (sym c.new.ensures) (λ k r lt. absurd (omega arith));
    }
