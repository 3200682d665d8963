use Rattle.std.proofs.Common.{◌∙◌, ℕ, List, length, arith, subst, sym, ap, All}
use Rattle.flat_code.specs.declared.instr.Location.{Location}
use Rattle.flat_code.specs.Fine.{IsLocation, IsPort, ShownLast, nothing}
use Rattle.flat_code.specs.Runs.{AreRuns}
use Rattle.flat_code.proofs.Solving.{ready_if_single}
use Rattle.base_cases.proofs.Pushing.{pushes_few}
use Rattle.net_cases.proofs.Building.{single_now, fine_now}
use Rattle.net_cases.proofs.code_cases.codes.made_of.Goals as goal

pub invariant_of-result : goal.invariant_of-result
invariant_of-result c =
    let n = c.args.slots in
    let m = c.args.words in
    let ports = c.new-2.result in
    let wides = c.args.wides in
    let instrs = c.args.instrs in
    let few = pushes_few instrs in
    let count = c.len-most.ensures in
    let single = single_now ports c.as_slice-2.result.now wides c.as_slice-3.result.now instrs c.new-2.ensures c.as_slice-3.ensures c.as_slice-2.ensures (c.in_ok-writes_once.ensures c.if-not-branch.false) in
    record {
      fine = fine_now ports wides wides c.as_slice.result.now instrs c.new-2.ensures c.as_slice.ensures n m _ c.len-else-len-gt1000000.ensures (c.are_fine.ensures c.if-not-are_fine.false);
      in_order = ready_if_single nothing ports wides instrs single;
      ports_fine = subst (All (IsPort n m)) (sym c.new-2.ensures) (λ k d lt. absurd (omega arith));
      wides_fine = c.requires;
      shown_fine = subst (All (IsLocation n)) (sym c.new-3.ensures) (λ k d lt. absurd (omega arith));
      shown_last = subst (λ x. ShownLast wides x instrs) (sym c.new-3.ensures) (λ k d lt. absurd (omega arith));
      each_shown = ap (λ (x : List ℕ). length x) c.new-4.ensures ∙ sym (ap (λ (x : List Location). length x) c.new-3.ensures);
      at_most = omega (arith, few, count);
      once_there = omega arith;
      runs_right = subst (AreRuns instrs) (sym c.new.ensures) (λ k r lt. absurd (omega arith));
    }
